-- Bytes are split at a blank in one way only, and so are fields.
use Rattle.std.proofs.Common.{◌≡◌, ℕ, zero, suc, ◌+◌, ◌-◌, ◌*◌, ◌^◌, ◌<◌, Bool, true, false, ◌&&◌, eqb, leb, List, [], ◌∷◌, ◌++◌, length, get_or, take, drop, decimal, sym, refl, ap, ◌∙◌, append_assoc, append-nil, arith, length-append, rules}
use Rattle.std.proofs.lemmas.Fmt.{digits_decimal, decimal_injective}
use Rattle.std.proofs.lemmas.Str.Parse.{IsNumeralModel, numerals_by_fold}
use Rattle.std.proofs.lemmas.Bool.{and_parts, leb-true, both_ways, eq-eqb, eqb-true}
use Rattle.std.specs.Str.{all_ascii_digits}
use Rattle.script.specs.Fields.{IsNumber, AllNumbers, fields, Solid, Parted, Split, Field, Rows}

abbrev pub read_on : ℕ → List ℕ → ℕ
read_on n [] = n
read_on n (c ∷ cs) = read_on (10 * n + (c - 48)) cs

pub own : IsNumeralModel (λ ds. all_ascii_digits ds ≡ true) (read_on 0)
own = numerals_by_fold _ (search rules) read_on (search rules)

-- what holds no blank and what begins with one, put together, come apart in one way
pub split_solid : (w v k l : List ℕ) → Solid w → Solid v → Parted k → Parted l → w ++ k ≡ v ++ l → (w ≡ v) × (k ≡ l)
split_solid [] [] k l p q s t e = (refl, e)
split_solid [] (c ∷ v) [] l p q s t e = let z : ◌≡◌ {A = ℕ} 0 1 = cc in absurd (omega arith)
split_solid [] (c ∷ v) (b ∷ k) l p q s t e = let h : b ≡ c = cc in absurd (q.0 (sym h ∙ s))
split_solid (c ∷ w) [] k [] p q s t e = let z : ◌≡◌ {A = ℕ} 0 1 = cc in absurd (omega arith)
split_solid (c ∷ w) [] k (b ∷ l) p q s t e = let h : c ≡ b = cc in absurd (p.0 (h ∙ t))
split_solid (c ∷ w) (d ∷ v) k l p q s t e =
    let h : c ≡ d = cc in
    let f : w ++ k ≡ v ++ l = cc in
    let r = split_solid w v k l p.1 q.1 s t f in
    ((λ i. h i ∷ r.0 i), r.1)

digits_solid : (ds : List ℕ) → all_ascii_digits ds ≡ true → Solid ds
digits_solid [] h = tt
digits_solid (c ∷ cs) h =
    let a = and_parts (leb 48 c && leb c 57) (all_ascii_digits cs) h in
    let b = and_parts (leb 48 c) (leb c 57) a.0 in
    let low = leb-true 48 c b.0 in
    (λ e. omega arith, digits_solid cs a.1)

pub small : (n : ℕ) → IsNumber n → n < 2 ^ 64
small n h = omega arith

pub decimal_solid : (n : ℕ) → IsNumber n → Solid (decimal n)
decimal_solid n h = digits_solid (decimal n) (digits_decimal own n (small n h))

pub fields_parted : (ns : List ℕ) → Parted (fields ns)
fields_parted [] = tt
fields_parted (n ∷ ns) = refl

-- a field is one only
pub field_only : (bytes : List ℕ) (m n : ℕ) (k l : List ℕ) → Field bytes m k → Field bytes n l → (m ≡ n) × (k ≡ l)
field_only bytes m n k l a b =
    let e = sym a.first ∙ b.first in
    let f : decimal m ++ k ≡ decimal n ++ l = cc in
    let s = split_solid (decimal m) (decimal n) k l (decimal_solid m a.number) (decimal_solid n b.number) a.parted b.parted f in
    (decimal_injective m n (small m a.number) (small n b.number) s.0, s.1)

-- stepping through bytes
pub solid_push : (xs : List ℕ) (b : ℕ) → Solid xs → (b ≡ 32 → ⊥) → Solid (xs ++ b ∷ [])
solid_push [] b h k = (k, tt)
solid_push (x ∷ xs) b h k = (h.0, solid_push xs b h.1 k)

pub parted_at : (bytes : List ℕ) (i : ℕ) → get_or bytes i 0 ≡ 32 → Parted (drop i bytes)
parted_at [] zero h = tt
parted_at [] (suc i) h = tt
parted_at (b ∷ bs) zero h = h
parted_at (b ∷ bs) (suc i) h = parted_at bs i h

-- A field, from its blank, its number and the rest.
module _ (bytes field digits rest : List ℕ) (blank : bytes ≡ 32 ∷ field) (split : Split field digits rest) where
  pub field_made : (n : ℕ) → IsNumber n → decimal n ≡ digits → Field bytes n rest
  field_made n h e = record {
    number = h;
    first = blank ∙ ap (λ l. 32 ∷ l) (split.whole ∙ ap (λ l. l ++ rest) (sym e));
    parted = split.parted;
  }

  pub field_none : ((n : ℕ) → IsNumber n → decimal n ≡ digits → ⊥) → (n : ℕ) (back : List ℕ) → Field bytes n back → ⊥
  field_none none n back f =
      let e : 32 ∷ field ≡ 32 ∷ (decimal n ++ back) = sym blank ∙ f.first in
      let same : field ≡ decimal n ++ back = cc in
      let s = split_solid (decimal n) digits back rest (decimal_solid n f.number) split.solid f.parted split.parted (sym same ∙ split.whole) in
      none n f.number s.0

-- Bytes of which none of the first n is a blank.
pub solid_within : (bytes : List ℕ) (n : ℕ) → ((k : ℕ) → k < n → get_or bytes k 0 ≡ 32 → ⊥) → Solid (take n bytes)
solid_within bytes zero h = tt
solid_within [] (suc n) h = tt
solid_within (b ∷ bytes) (suc n) h = (h 0 (omega arith), solid_within bytes n (λ k l. h (suc k) (omega arith)))

-- The first field of fields.
pub first_field : (bytes : List ℕ) (n : ℕ) (ns : List ℕ) → AllNumbers (n ∷ ns) → bytes ≡ fields (n ∷ ns) → Field bytes n (fields ns)
first_field bytes n ns a e = record { number = a.0; first = e; parted = fields_parted ns }

pub first_is : (bytes rest : List ℕ) (m n : ℕ) (ns : List ℕ) → Field bytes m rest → AllNumbers (n ∷ ns) → bytes ≡ fields (n ∷ ns) → (m ≡ n) × (rest ≡ fields ns)
first_is bytes rest m n ns f a e = field_only bytes m n rest (fields ns) f (first_field bytes n ns a e)

-- fields before and behind one
pub rows_back : (bytes rest : List ℕ) (n : ℕ) → Field bytes n rest → Rows rest → Rows bytes
rows_back bytes rest n f r = (n ∷ r.0, (f.number, r.1), f.first ∙ ap (λ l. 32 ∷ (decimal n ++ l)) r.2)

pub rows_on : (bytes rest : List ℕ) (n : ℕ) → Field bytes n rest → Rows bytes → Rows rest
rows_on bytes rest n f r = go r.0 r.1 r.2
  where
    go : (ns : List ℕ) → AllNumbers ns → bytes ≡ fields ns → Rows rest
    go [] a e = let h = f.first in let z : ◌≡◌ {A = ℕ} 0 1 = cc in absurd (omega arith)
    go (m ∷ ns) a e = (ns, a.1, (first_is bytes rest n m ns f a e).1)

pub rows_none : (bytes : List ℕ) → (length bytes ≡ 0 → ⊥) → ((n : ℕ) (rest : List ℕ) → Field bytes n rest → ⊥) → Rows bytes → ⊥
rows_none bytes some none r = go r.0 r.1 r.2
  where
    go : (ns : List ℕ) → AllNumbers ns → bytes ≡ fields ns → ⊥
    go [] a e = some (ap length e)
    go (n ∷ ns) a e = none n (fields ns) (first_field bytes n ns a e)

pub field_shorter : (bytes rest : List ℕ) (n : ℕ) → Field bytes n rest → length rest < length bytes
field_shorter bytes rest n f =
    let e = ap length f.first in
    let l = length-append (decimal n) rest in
    omega arith

-- what `is_empty` tells
pub not_empty : (bytes : List ℕ) (r : Bool) → r ≡ eqb (length bytes) 0 → r ≡ false → length bytes ≡ 0 → ⊥
not_empty bytes r e f h = both_ways r f (e ∙ eq-eqb (length bytes) 0 h)

pub is_empty : (bytes : List ℕ) (r : Bool) → r ≡ eqb (length bytes) 0 → r ≡ true → length bytes ≡ 0
is_empty bytes r e t = eqb-true (length bytes) 0 (sym e ∙ t)

-- Numbers read one after the other: the items so far, with what is left, are ns.
abbrev pub Reading : List ℕ → List ℕ → List ℕ → Type 0
Reading left items ns = (ms : List ℕ) × AllNumbers ms × (left ≡ fields ms) × (items ++ ms ≡ ns)

pub reading_on : (left rest items more : List ℕ) (n : ℕ) (ns : List ℕ) → Field left n rest → more ≡ items ++ n ∷ [] → Reading left items ns → Reading rest more ns
reading_on left rest items more n ns f e k = go k.0 k.1 k.2 k.3
  where
    go : (ms : List ℕ) → AllNumbers ms → left ≡ fields ms → items ++ ms ≡ ns → Reading rest more ns
    go [] a h j = let b = f.first in let z : ◌≡◌ {A = ℕ} 0 1 = cc in absurd (omega arith)
    go (m ∷ ms) a h j =
        let s = first_is left rest n m ms f a h in
        let same : more ++ ms ≡ items ++ n ∷ ms = ap (λ l. l ++ ms) e ∙ append_assoc items (n ∷ []) ms in
        (ms, a.1, s.1, same ∙ ap (λ x. items ++ x ∷ ms) s.0 ∙ j)

pub reading_end : (left items ns : List ℕ) → ((n : ℕ) (rest : List ℕ) → Field left n rest → ⊥) → Reading left items ns → items ≡ ns
reading_end left items ns none k = go k.0 k.1 k.2 k.3
  where
    go : (ms : List ℕ) → AllNumbers ms → left ≡ fields ms → items ++ ms ≡ ns → items ≡ ns
    go [] a h j = sym (append-nil items) ∙ j
    go (m ∷ ms) a h j = absurd (none m (fields ms) (first_field left m ms a h))
