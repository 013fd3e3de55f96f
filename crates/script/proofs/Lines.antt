-- A line is the writing of one thing only.
use Rattle.std.proofs.Common.{◌≡◌, ℕ, Bool, true, false, cond, eqb, List, [], ◌∷◌, ◌++◌, get_or, drop, Some, None, Option, sym, refl, ap, ◌∙◌, subst, arith}
use Rattle.std.proofs.lemmas.Bool.{both_ways, eq-eqb}
use Rattle.script.specs.Fields.{AllNumbers, fields, Solid, Parted, Split}
use Rattle.script.specs.Verbs.{spelled}
use Rattle.script.specs.Lines.{Asked, variable, compose, read, equate, back, mark, degree, resolve, verb, behind, named, written, IsLine, Found, Follows}
use Rattle.script.specs.declared.line.Line.{Line}
use Rattle.script.specs.declared.line.Line.TheVariants.{Variable as a_variable, Compose as a_compose, Read as a_read, Equate as an_equate, Back as a_back, Mark as a_mark, Degree as a_degree, Resolve as a_resolve}
use Rattle.script.specs.declared.verb.Verb.{Verb}
use Rattle.script.specs.declared.verb.Verb.TheVariants.{Variable, Compose, Read, Equate, Back, Mark, Degree, Resolve}
use Rattle.script.proofs.Splits.{split_solid, first_field, first_is}

-- A verb is told by its first letter, and two of them by the third.
abbrev verb_of : List ℕ → Verb
verb_of w =
    cond (eqb (get_or w 0 0) 118) Variable
    (cond (eqb (get_or w 0 0) 99) Compose
    (cond (eqb (get_or w 0 0) 101) Equate
    (cond (eqb (get_or w 0 0) 98) Back
    (cond (eqb (get_or w 0 0) 109) Mark
    (cond (eqb (get_or w 0 0) 100) Degree
    (cond (eqb (get_or w 2 0) 97) Read Resolve))))))

verb_of_lem : (v : Verb) → verb_of (spelled v) ≡ v
verb_of_lem Variable = refl
verb_of_lem Compose = refl
verb_of_lem Read = refl
verb_of_lem Equate = refl
verb_of_lem Back = refl
verb_of_lem Mark = refl
verb_of_lem Degree = refl
verb_of_lem Resolve = refl

pub same_verb : (v w : Verb) → spelled v ≡ spelled w → v ≡ w
same_verb v w e = sym (verb_of_lem v) ∙ ap verb_of e ∙ verb_of_lem w

abbrev blankless : List ℕ → Bool
blankless [] = true
blankless (b ∷ bs) = cond (eqb b 32) false (blankless bs)

solid_tested : (w : List ℕ) → blankless w ≡ true → Solid w
solid_tested [] h = tt
solid_tested (b ∷ bs) h = go (eqb b 32) refl (solid_tested bs) h
  where
    go : (t : Bool) → eqb b 32 ≡ t → (blankless bs ≡ true → Solid bs) → cond t false (blankless bs) ≡ true → Solid (b ∷ bs)
    go true e more h = absurd (both_ways false refl h)
    go false e more h = ((λ s. both_ways (eqb b 32) e (eq-eqb b 32 s)), more h)

spelled_solid : (v : Verb) → Solid (spelled v)
spelled_solid Variable = solid_tested (spelled Variable) refl
spelled_solid Compose = solid_tested (spelled Compose) refl
spelled_solid Read = solid_tested (spelled Read) refl
spelled_solid Equate = solid_tested (spelled Equate) refl
spelled_solid Back = solid_tested (spelled Back) refl
spelled_solid Mark = solid_tested (spelled Mark) refl
spelled_solid Degree = solid_tested (spelled Degree) refl
spelled_solid Resolve = solid_tested (spelled Resolve) refl

behind_parted : (a : Asked) → Parted (behind a)
behind_parted (variable x) = refl
behind_parted (compose w ps) = refl
behind_parted (read t) = refl
behind_parted (equate p q) = refl
behind_parted (back r e) = refl
behind_parted mark = tt
behind_parted degree = tt
behind_parted (resolve p) = refl

-- the verb and what stands behind it
pub line_split : (line word rest : List ℕ) → Split line word rest → (a : Asked) → IsLine line a → (word ≡ spelled (verb a)) × (rest ≡ behind a)
line_split line word rest s a l =
    split_solid word (spelled (verb a)) rest (behind a) s.solid (spelled_solid (verb a)) s.parted (behind_parted a) (sym s.whole ∙ l.is)

pub same_fields : (ms ns : List ℕ) → AllNumbers ms → AllNumbers ns → fields ms ≡ fields ns → ms ≡ ns
same_fields [] [] a b e = refl
same_fields [] (n ∷ ns) a b e = let z : ◌≡◌ {A = ℕ} 0 1 = cc in absurd (omega arith)
same_fields (m ∷ ms) [] a b e = let z : ◌≡◌ {A = ℕ} 0 1 = cc in absurd (omega arith)
same_fields (m ∷ ms) (n ∷ ns) a b e =
    let s = first_is (fields (m ∷ ms)) (fields ms) m n ns (first_field (fields (m ∷ ms)) m ms a refl) b e in
    let r = same_fields ms ns a.1 b.1 s.1 in
    λ i. s.0 i ∷ r i

-- What is asked, from its verb, its numbers and what stands behind the verb.
abbrev made : Verb → List ℕ → List ℕ → Asked
made Variable ns t = variable (get_or ns 0 0)
made Compose ns t = compose (get_or ns 0 0) (drop 1 ns)
made Read ns t = read (drop 1 t)
made Equate ns t = equate (get_or ns 0 0) (get_or ns 1 0)
made Back ns t = back (get_or ns 0 0) (get_or ns 1 0)
made Mark ns t = mark
made Degree ns t = degree
made Resolve ns t = resolve (get_or ns 0 0)

made_is : (a : Asked) → made (verb a) (named a) (behind a) ≡ a
made_is (variable x) = refl
made_is (compose w ps) = refl
made_is (read t) = refl
made_is (equate p q) = refl
made_is (back r e) = refl
made_is mark = refl
made_is degree = refl
made_is (resolve p) = refl

-- the bytes of its fields
abbrev fields_of : Verb → List ℕ → List ℕ
fields_of Variable t = t
fields_of Compose t = t
fields_of Read t = []
fields_of Equate t = t
fields_of Back t = t
fields_of Mark t = t
fields_of Degree t = t
fields_of Resolve t = t

fields_of_lem : (a : Asked) → fields_of (verb a) (behind a) ≡ fields (named a)
fields_of_lem (variable x) = refl
fields_of_lem (compose w ps) = refl
fields_of_lem (read t) = refl
fields_of_lem (equate p q) = refl
fields_of_lem (back r e) = refl
fields_of_lem mark = refl
fields_of_lem degree = refl
fields_of_lem (resolve p) = refl

pub line_only : (line : List ℕ) (a b : Asked) → IsLine line a → IsLine line b → a ≡ b
line_only line a b k l =
    let s = split_solid (spelled (verb a)) (spelled (verb b)) (behind a) (behind b) (spelled_solid (verb a)) (spelled_solid (verb b)) (behind_parted a) (behind_parted b) (sym k.is ∙ l.is) in
    let v = same_verb (verb a) (verb b) s.0 in
    let t = s.1 in
    let f : fields (named a) ≡ fields (named b) = sym (fields_of_lem a) ∙ (λ i. fields_of (v i) (t i)) ∙ fields_of_lem b in
    let n = same_fields (named a) (named b) k.numbers l.numbers f in
    sym (made_is a) ∙ (λ i. made (v i) (n i) (t i)) ∙ made_is b

-- What must stand behind a verb.
abbrev Shape : Verb → List ℕ → Type 0
Shape Variable t = (n : ℕ) × AllNumbers (n ∷ []) × (t ≡ fields (n ∷ []))
Shape Compose t = (n : ℕ) × ((ns : List ℕ) × AllNumbers (n ∷ ns) × (t ≡ fields (n ∷ ns)))
Shape Read t = (s : List ℕ) × (t ≡ 32 ∷ s)
Shape Equate t = (m : ℕ) × ((n : ℕ) × AllNumbers (m ∷ n ∷ []) × (t ≡ fields (m ∷ n ∷ [])))
Shape Back t = (m : ℕ) × ((n : ℕ) × AllNumbers (m ∷ n ∷ []) × (t ≡ fields (m ∷ n ∷ [])))
Shape Mark t = t ≡ []
Shape Degree t = t ≡ []
Shape Resolve t = (n : ℕ) × AllNumbers (n ∷ []) × (t ≡ fields (n ∷ []))

pub shaped : (v : Verb) (t : List ℕ) (a : Asked) → Follows v t a → Shape v t
shaped v t a f = subst (λ (w : Verb). Shape w t) f.verbed (go a f.numbers f.is)
  where
    go : (a : Asked) → AllNumbers (named a) → t ≡ behind a → Shape (verb a) t
    go (variable x) n e = (x, n, e)
    go (compose w ps) n e = (w, (ps, n, e))
    go (read s) n e = (s, e)
    go (equate p q) n e = (p, (q, n, e))
    go (back p q) n e = (p, (q, n, e))
    go mark n e = e
    go degree n e = e
    go (resolve p) n e = (p, n, e)

pub found_map : (P Q : Asked → Type 0) → ((a : Asked) → P a → Q a) → ((a : Asked) → Q a → P a) → (r : Option Line) → Found P r → Found Q r
found_map P Q f g (Some (a_variable x)) h = f (variable x) h
found_map P Q f g (Some (a_compose w rows)) h = (h.0, h.1, f (compose w h.0) h.2)
found_map P Q f g (Some (a_read t)) h = f (read t.now) h
found_map P Q f g (Some (an_equate p q)) h = f (equate p q) h
found_map P Q f g (Some (a_back p q)) h = f (back p q) h
found_map P Q f g (Some a_mark) h = f mark h
found_map P Q f g (Some a_degree) h = f degree h
found_map P Q f g (Some (a_resolve p)) h = f (resolve p) h
found_map P Q f g None h = λ a q. h a (g a q)

-- From what stands behind the verb to the whole line.
pub found_line : (line word rest : List ℕ) → Split line word rest → (v : Verb) → word ≡ spelled v → (r : Option Line) → Found (Follows v rest) r → Found (IsLine line) r
found_line line word rest s v e r h =
    found_map (Follows v rest) (IsLine line)
    (λ a f. record { numbers = f.numbers; is = s.whole ∙ (λ i. whole a f i) })
    (λ a l.
    let k = line_split line word rest s a l in
    record { numbers = l.numbers; verbed = same_verb (verb a) v (sym k.0 ∙ e); is = k.1 }) r h
  where
    whole : (a : Asked) → Follows v rest a → word ++ rest ≡ written a
    whole a f = let w : word ≡ spelled (verb a) = e ∙ ap spelled (sym f.verbed) in let b = f.is in λ i. w i ++ b i
