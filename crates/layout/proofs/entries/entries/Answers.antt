use Rattle.std.proofs.Common.{◌≡◌, Ok, Err, Result, MatchResult, IsErrAnd, subst, rules, arith, below_more}
use Rattle.std.proofs.lemmas.Result.{err_from_is_err_and}
use Rattle.layout.specs.declared.causes.FormFault.TheVariants.{Entry}
use Rattle.layout.proofs.Starts.{start_more, walked}
use Rattle.layout.proofs.entries.entries.Goals as goal

-- What a result whose error was changed says of the result before.
ok_of : {T E F : Type 0} (P : T → Type 0) (Q : E → Type 0) (R : E → F → Type 0) (r : Result T E) (m : Result T F) (x : T) → m ≡ Ok x
    → MatchResult r (λ y. m ≡ Ok y) (λ e. IsErrAnd m (R e)) → MatchResult r P Q → P x
ok_of P Q R (Ok y) m x was e p = let same : y ≡ x = cc in subst P same p
ok_of {F = F} P Q R (Err d) m x was e p = absurd (subst {A = Result _ F} (λ n. IsErrAnd n (R d)) was e)

err_of : {T E F : Type 0} (P : T → Type 0) (Q : E → Type 0) (R : E → F → Type 0) (r : Result T E) (m : Result T F) (f : F) → m ≡ Err f
    → MatchResult r (λ y. m ≡ Ok y) (λ e. IsErrAnd m (R e)) → MatchResult r P Q → (e : E) × Q e × R e f
err_of P Q R (Ok y) m f was e p = absurd (cc)
err_of {F = F} P Q R (Err d) m f was e p = (d, p, subst {A = Result _ F} (λ n. IsErrAnd n (R d)) was e)

pub loop-i-preserved : goal.loop-i-preserved
loop-i-preserved c =
    let read = ok_of _ _ _ _ _ _ c.in_ok-at.was c.map_err.ensures.cases c.entry.ensures in
    let end = walked _ _ _ _ c.loop-i.invariant.0 read.1 in
    (end, omega (arith, read.0.present, end, start_more c.args.bytes.now c.loop-i.i-counter), below_more _ _ c.loop-i.invariant.2 read.0)

pub returns-in_err-at : goal.returns-in_err-at
returns-in_err-at c =
    let bad = err_of _ _ _ _ _ _ c.in_err-at.was c.map_err.ensures.cases c.entry.ensures in
    let learnt = bad.2 in
    let is : c.in_err-at.field-0.0 ≡ Entry c.loop-i.i-counter bad.0 = search rules in
    let told = err_from_is_err_and c.from_residual.result c.from_residual.ensures.1 in
    rw (told.1, told.2, is) (c.requires, omega arith, c.loop-i.invariant.2, bad.1)
