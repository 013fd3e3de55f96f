use Rattle.std.proofs.Common.{ℕ, ◌-◌, List, take, Result, sym, subst, is_ok, arith}
use Rattle.text.specs.Verdicts.{Verdict}
use Rattle.text.specs.declared.causes.TextFault.{TextFault}
use Rattle.report.specs.Texts.{text_report}
use Rattle.report.specs.Told.{Tells}
use Rattle.report.proofs.Arities.{arities_listed}
use Rattle.report.proofs.texts.text_over.Goals as goal

pub returns : goal.returns
returns g c w fits =
    let V = g.V.Vocabulary.model c.args.words.now in
    let spellings = g.L.Lexicon.spellings c.args.lexicon.now in
    let list =
    arities_listed c.arities-list.result V.arity c.count-count.result V.count c.count-count.ensures
    (omega (arith, c.arities-list.ensures.len, (g.met.V.Vocabulary.lawful c.args.words.now).few)) c.arities-list.ensures.places in
    let only =
    c.check_text-verdict.ensures.only w
    (subst (λ (t : List ℕ). Verdict spellings (take (c.count-count.result - 0) c.arities-list.result) t w) (sym c.as_bytes.ensures.value)
    (subst (λ (arities : List ℕ). Verdict spellings arities c.args.text.now w) (sym list) fits)) in
    subst (λ (v : Result (Unit {0}) TextFault). Tells (is_ok v) (text_report c.args.text.now v) c.text_verdict.result) (sym only) c.text_verdict.ensures
