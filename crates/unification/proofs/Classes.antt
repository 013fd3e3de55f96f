-- The degree of a class of words.
use Rattle.std.proofs.Common.{◌≡◌, ℕ, List, [], ◌∷◌, ◌++◌, refl, ⊎_elim}
use mathlib.Core.List.Memᴰ
use Rattle.scale.specs.Scales.{Operations, IsScale, AtMost}
use Rattle.vocabulary.specs.Words.{Words, IsVocabulary}
use Rattle.unification.specs.Classes.{Member, likeness_to, likeness_between, class_degree, InPairs, ClassDegrees}
use Rattle.scale.proofs.Orders.{le_trans, le_anti, le_top, meet_left, meet_right, meet_glb, le_of_eq}

module _ {D : Type 0} {S : Operations D} (L : IsScale S) {V : Words D} (W : IsVocabulary S V) where
  to_each : (f g : ℕ) (gs : List ℕ) → Member g gs → AtMost S (likeness_to S V f gs) (V.likeness f g)
  to_each f g [] m = elim m [ ]
  to_each f g (h ∷ gs) (Memᴰ.head e) = rw e (meet_left L (V.likeness f h) (likeness_to S V f gs))
  to_each f g (h ∷ gs) (Memᴰ.tail m) = le_trans L (meet_right L (V.likeness f h) (likeness_to S V f gs)) (to_each f g gs m)

  to_all : (d : D) (f : ℕ) (gs : List ℕ) → ((g : ℕ) → Member g gs → AtMost S d (V.likeness f g)) → AtMost S d (likeness_to S V f gs)
  to_all d f [] h = le_top L d
  to_all d f (g ∷ gs) h = meet_glb L (h g (Memᴰ.head refl)) (to_all d f gs (λ k m. h k (Memᴰ.tail m)))

  between_each : (f : ℕ) (fs gs : List ℕ) → Member f fs → AtMost S (likeness_between S V fs gs) (likeness_to S V f gs)
  between_each f [] gs m = elim m [ ]
  between_each f (h ∷ fs) gs (Memᴰ.head e) = rw e (meet_left L (likeness_to S V h gs) (likeness_between S V fs gs))
  between_each f (h ∷ fs) gs (Memᴰ.tail m) = le_trans L (meet_right L (likeness_to S V h gs) (likeness_between S V fs gs)) (between_each f fs gs m)

  between_all : (d : D) (fs gs : List ℕ) → ((f : ℕ) → Member f fs → AtMost S d (likeness_to S V f gs)) → AtMost S d (likeness_between S V fs gs)
  between_all d [] gs h = le_top L d
  between_all d (f ∷ fs) gs h = meet_glb L (h f (Memᴰ.head refl)) (between_all d fs gs (λ k m. h k (Memᴰ.tail m)))

  class_pairs : (fs : List ℕ) → InPairs S V fs (class_degree S V fs)
  class_pairs fs f g m n = le_trans L (between_each f fs fs m) (to_each f g fs n)

  class_greatest : (fs : List ℕ) (d : D) → InPairs S V fs d → AtMost S d (class_degree S V fs)
  class_greatest fs d h = between_all d fs fs (λ f m. to_all d f fs (λ g n. h f g m n))

  -- likenesses to one word bound those of any two
  through : (fs : List ℕ) (f : ℕ) → InPairs S V fs (likeness_to S V f fs)
  through fs f g h m n =
      le_trans L (meet_glb L (le_trans L (to_each f g fs m) (le_of_eq L (W.symmetric f g))) (to_each f h fs n)) (W.transitive g f h)

  class_any : (fs : List ℕ) (f : ℕ) → Member f fs → class_degree S V fs ≡ likeness_to S V f fs
  class_any fs f m = le_anti L (between_each f fs fs m) (class_greatest fs (likeness_to S V f fs) (through fs f))

  module _ (fs gs : List ℕ) (f : ℕ) (m : Member f fs) (n : Member f gs) where
    -- a member of either class is alike to the common one at the meet of both degrees
    to_common : (g : ℕ) → Member g (fs ++ gs) → AtMost S (S.meet (class_degree S V fs) (class_degree S V gs)) (V.likeness f g)
    to_common g k =
        ⊎_elim (λ a. le_trans L (meet_left L (class_degree S V fs) (class_degree S V gs)) (class_pairs fs f g m a))
        (λ b. le_trans L (meet_right L (class_degree S V fs) (class_degree S V gs)) (class_pairs gs f g n b))
        (Memᴰ.append_cases fs k)

    class_united : class_degree S V (fs ++ gs) ≡ S.meet (class_degree S V fs) (class_degree S V gs)
    class_united =
        le_anti L
        (meet_glb L
        (class_greatest fs (class_degree S V (fs ++ gs)) (λ g h a b. class_pairs (fs ++ gs) g h (Memᴰ.append_left gs a) (Memᴰ.append_left gs b)))
        (class_greatest gs (class_degree S V (fs ++ gs)) (λ g h a b. class_pairs (fs ++ gs) g h (Memᴰ.append_right fs a) (Memᴰ.append_right fs b))))
        (class_greatest (fs ++ gs) (S.meet (class_degree S V fs) (class_degree S V gs))
        (λ g h a b.
        le_trans L (meet_glb L (le_trans L (to_common g a) (le_of_eq L (W.symmetric f g))) (to_common h b)) (W.transitive g f h)))

  pub class_degrees : ClassDegrees S V
  class_degrees = record { pairs = class_pairs; greatest = class_greatest; any = class_any; none = refl; united = class_united }
