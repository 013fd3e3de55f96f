-- What a number is written as, and what is read of it.
use Rattle.std.proofs.Common.{◌≡◌, ℕ, List, length, get_or, Ok, Err, IsUtf8, decimal, Option, Result, sym, ap, ◌∙◌, inl, inr, arith, MatchOption}
use Rattle.std.proofs.lemmas.Fmt.{digits_decimal, digits_value-decimal, decimal_digit, decimal_nonempty, decimal-digits_value, IsAscii-decimal, first_decimal}
use Rattle.std.proofs.lemmas.Str.Parse.{parse_plain, not_in_digits}
use Rattle.std.proofs.lemmas.Bool.{cases_lt}
use Rattle.std.proofs.lemmas.Str.{IsUtf8-from_ascii}
use Rattle.std.specs.Str.Parse.{ParsesUnsigned}
use Rattle.std.specs.Result.{result_ok}
use Rattle.std.specs.Str.{all_ascii_digits}
use Rattle.script.specs.Fields.{IsNumber, Plain}
use Rattle.script.proofs.Splits.{own, read_on, small}

pub decimal_utf8 : (n : ℕ) → IsNumber n → IsUtf8 (decimal n)
decimal_utf8 n h = IsUtf8-from_ascii (decimal n) (IsAscii-decimal n (small n h))

pub decimal_plain : (n : ℕ) → IsNumber n → Plain (decimal n)
decimal_plain n h =
    let some = decimal_nonempty n (small n h) in
    (some, (λ e. not_in_digits own (decimal n) 43 (digits_decimal own n (small n h)) (λ r. let low = r.0 in omega arith) 0 some e), zero_alone)
  where
    zero_alone : get_or (decimal n) 0 0 ≡ 48 → length (decimal n) ≡ 1
    zero_alone e =
        elim (cases_lt 0 n) [
          | inl some ↦ let f = first_decimal n some (small n h) in absurd (omega arith)
          | inr none ↦ ap length (decimal_digit n (omega arith))
        ]

-- What is told of bytes: the number that is written so, or that none is.
abbrev pub Told : List ℕ → Option ℕ → Type 0
Told bs o = MatchOption o ((n : ℕ) → IsNumber n → decimal n ≡ bs → ⊥) (λ n. IsNumber n × (decimal n ≡ bs))

-- what `parse` reads of plain bytes
pub number_parsed : {E : Type 0} (bs : List ℕ) (r : Result ℕ E) → Plain bs → ParsesUnsigned 16 10 bs r → Told bs (result_ok r)
number_parsed {E} bs (Ok x) p h =
    let k = parse_plain own {E = E} 16 bs (Ok x) h p.1 in
    let is = k.1 in
    let below = k.0.2 in
    (omega arith, ap decimal is ∙ decimal-digits_value own bs k.0.0 p.0 p.2 (omega arith))
number_parsed {E} bs (Err e) p h = λ n i d.
    let k = parse_plain own {E = E} 16 bs (Err e) h p.1 in
    let v : read_on 0 bs ≡ n = ap (read_on 0) (sym d) ∙ digits_value-decimal own n (small n i) in
    k (ap all_ascii_digits (sym d) ∙ digits_decimal own n (small n i), p.0, omega arith)
