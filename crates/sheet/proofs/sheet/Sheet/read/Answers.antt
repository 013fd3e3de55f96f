use Rattle.std.proofs.Common.{ℕ, List, sym, refl, subst}
use Rattle.reading.specs.Reads.{FewEach, ReadGives}
use Rattle.sheet.proofs.Arranged.{few_each, taken_arities}
use Rattle.sheet.proofs.sheet.Sheet.read.Goals as goal
use Rattle.table.specs.Sheets.{sheet_of}

pub read_text-requires : goal.read_text-requires
read_text-requires g c =
    let W = g.met.V.Vocabulary.lawful c.args.self.now.vocabulary.now in
    let e = taken_arities W c.count-count.result c.arities-arities.result c.count-count.ensures c.arities-arities.ensures.len c.arities-arities.ensures.places in
    subst FewEach (sym e) (few_each W)

pub returns : goal.returns
returns g c =
    let W = g.met.V.Vocabulary.lawful c.args.self.now.vocabulary.now in
    let e = taken_arities W c.count-count.result c.arities-arities.result c.count-count.ensures c.arities-arities.ensures.len c.arities-arities.ensures.places in
    let t = c.args.self.now.table in
    let u = c.read_text.new.table in
    record {
      answer = subst (λ (l : List ℕ). ReadGives (g.L.Lexicon.spellings c.args.lexicon.now) l (sheet_of t.rows t.equations) c.args.text.now c.read_text.result (sheet_of u.rows u.equations)) e c.read_text.ensures.answer;
      kept = c.read_text.ensures.kept;
      vocabulary = refl;
    }
