-- The steps of a reading: an item is taken, a row is given to the innermost open word, a word is composed.
use Rattle.std.proofs.Common.{◌≡◌, ℕ, zero, suc, ◌+◌, ◌<◌, ◌≤◌, List, [], ◌∷◌, ◌++◌, reverse, length, get_or, Some, None, Ok, Err, Option, Result, sym, refl, ap, ◌∙◌, subst, inl, inr, append_assoc, append-nil, arith, length-append}
use mathlib.Core.List.{reverse-append}
use Rattle.fault.specs.Firsts.{Below}
use Rattle.table.specs.Calls.{AreRows, ComposeGives, VariableGives}
use Rattle.table.specs.declared.causes.RowFault.{RowFault}
use Rattle.table.specs.declared.causes.RowFault.TheVariants.{TooMany, Missing, Label, Full}
use Rattle.text.specs.Items.{Entry, variable, word, items, all_items}
use Rattle.text.specs.Limits.{deepest}
use Rattle.text.specs.Writings.{Nested}
use Rattle.unification.specs.Putting.{Put, met, new, built, none, each}
use Rattle.unification.specs.Sheets.{Sheet, At, composed, appended}
use Rattle.unification.specs.Sheets as sheet
use Rattle.unification.specs.Terms.{Term, Terms, var, app, nil, cons, size, Formed}
use Rattle.unification.proofs.Putting.{put_all_total, put_all_extends, put_extends, extends_length, appended_length, put_row}
use Rattle.reading.specs.Frames.{Frame, Leads, pending, Framed, IsOpen, AreOpen}
use Rattle.reading.specs.Stacks.{given_to}
use Rattle.reading.specs.Steps.{Overfull, Due, Made, Comes}
use Rattle.reading.specs.declared.causes.NoRoom.{NoRoom}
use Rattle.reading.specs.declared.words.OpenWord.{OpenWord}

-- What is asked of the frames stays so as rows are added.
framed_grows : (arities : List ℕ) (s v : Sheet) (fs : List Frame) (d : ℕ) → length s.rows ≤ length v.rows → Framed arities s fs d → Framed arities v fs d
framed_grows arities s v [] d h f = f
framed_grows arities s v (x ∷ fs) d h f = (f.0, f.1, (λ i l. let b = f.2 i l in omega arith), framed_grows arities s v fs (suc d) h f.3)

-- The deeper the innermost word, the less room there is in it.
pub framed_depth : (arities : List ℕ) (s : Sheet) (fs : List Frame) (d : ℕ) → Framed arities s fs d → length fs + d ≡ deepest
framed_depth arities s [] d f = omega arith
framed_depth arities s (x ∷ fs) d f = let h = framed_depth arities s fs (suc d) f.3 in omega arith

pub open_length : (ws : List OpenWord) (fs : List Frame) → AreOpen ws fs → length ws ≡ length fs
open_length [] [] h = refl
open_length [] (f ∷ fs) h = absurd h
open_length (w ∷ ws) [] h = absurd h
open_length (w ∷ ws) (f ∷ fs) h = ap suc (open_length ws fs h.1)

-- From every row the whole can be put.
leads_total : (fs : List Frame) (p : ℕ) (s : Sheet) → (r : ℕ) × (u : Sheet) × Leads fs p s r u × (length s.rows ≤ length u.rows)
leads_total [] p s = (p, s, (refl, refl), omega arith)
leads_total (f ∷ fs) p s =
    let h = put_all_total s f.rest in
    let v = h.1 in
    let row = composed f.word ((f.rows ++ (p ∷ [])) ++ h.0) in
    let k = leads_total fs (length v.rows) (appended v row) in
    let a = extends_length s v (put_all_extends h.2) in
    let b = appended_length v row in
    let c = k.3 in
    (k.0, k.1, (h.0, v, h.2, k.2), omega arith)

-- The first item tells what the term is.
starts_variable : (t : Term) (x : ℕ) (es rest : List Entry) → variable x ∷ es ≡ items t ++ rest → (t ≡ var x) × (es ≡ rest)
starts_variable (var y) x es rest e = let same : y ≡ x = cc in (ap var same, cc)
starts_variable (app f ts) x es rest e = absurd (cc)

starts_word : (t : Term) (f : ℕ) (es rest : List Entry) → word f ∷ es ≡ items t ++ rest → (ts : Terms) × (t ≡ app f ts) × (es ≡ all_items ts ++ rest)
starts_word (var y) f es rest e = absurd (cc)
starts_word (app g ts) f es rest e = let same : g ≡ f = cc in (ts, ap (λ (k : ℕ). app k ts) same, cc)

-- A term has an item.
pub some_item : (t : Term) (rest : List Entry) → items t ++ rest ≡ [] → ⊥
some_item (var x) rest e = cc
some_item (app f ts) rest e = cc

module _ (arities : List ℕ) (start : Sheet) (t : Term) where
  -- at the start the whole term is due
  pub due_whole : Formed (length arities) (λ w. get_or arities w 0) t → Nested t deepest → Due arities start t [] start (items t)
  due_whole f n = record {
    next = t;
    frames = [];
    depth = deepest;
    formed = f;
    nested = n;
    framed = refl;
    opened = tt;
    leads = λ p r v u put e. subst (λ (x : Sheet). Put start t r x) e.1 (subst (λ (q : ℕ). Put start t q v) e.0 put);
    left = sym (append-nil (items t));
  }

  -- the term that was due has its row
  due_made : (ws : List OpenWord) (s : Sheet) (es rest : List Entry) (d : Due arities start t ws s es) (p : ℕ) (v : Sheet) → Put s d.next p v → rest ≡ pending d.frames → Made arities start t ws p v rest
  due_made ws s es rest d p v put e = record {
    frames = d.frames;
    depth = d.depth;
    framed = framed_grows arities s v d.frames d.depth (extends_length s v (put_extends put)) d.framed;
    opened = d.opened;
    row = put_row put;
    leads = λ r u k. d.leads p r v u put k;
    left = e;
  }

  -- or makes too many rows
  due_overfull : (ws : List OpenWord) (s : Sheet) (es : List Entry) (d : Due arities start t ws s es) (p : ℕ) (v : Sheet) → Put s d.next p v → 512 < length v.rows → Overfull start t
  due_overfull ws s es d p v put h =
      let k = leads_total d.frames p v in
      let l = k.3 in
      (k.0, k.1, d.leads p k.0 v k.1 put k.2, omega arith)

  module _ (ws : List OpenWord) (s : Sheet) (es : List Entry) where
    -- a variable is taken
    pub variable_made : (x p : ℕ) (v : Sheet) → Due arities start t ws s (variable x ∷ es) → VariableGives s x (Ok p) v → Made arities start t ws p v es
    variable_made x p v d g =
        let is = starts_variable d.next x es (pending d.frames) d.left in
        due_made ws s (variable x ∷ es) es d p v (subst (λ (y : Term). Put s y p v) (sym is.0) (put g)) is.1
      where
        put : VariableGives s x (Ok p) v → Put s (var x) p v
        put (h, inl k) = subst (λ (z : Sheet). Put s (var x) p z) (sym k.1) (met k.0)
        put (h, inr k) = subst (λ (z : Sheet). Put s (var x) p z) (sym k.3) (subst (λ (q : ℕ). Put s (var x) q (appended s (sheet.variable x))) (sym k.2) (new k.0))

    pub variable_refused : (x : ℕ) (e : RowFault) (v : Sheet) → Due arities start t ws s (variable x ∷ es) → VariableGives s x (Err e) v → Overfull start t
    variable_refused x Label v d g =
        let is = starts_variable d.next x es (pending d.frames) d.left in
        let low : x < 100 = subst (Formed (length arities) (λ w. get_or arities w 0)) is.0 d.formed in
        let high = g.0 in
        absurd (omega arith)
    variable_refused x Full v d g =
        let is = starts_variable d.next x es (pending d.frames) d.left in
        let u = appended s (sheet.variable x) in
        let n = appended_length s (sheet.variable x) in
        let m = g.2 in
        due_overfull ws s (variable x ∷ es) d (length s.rows) u (subst (λ (y : Term). Put s y (length s.rows) u) (sym is.0) (new g.1)) (omega arith)
    variable_refused x TooMany v d g = absurd g
    variable_refused x (Missing i) v d g = absurd g

    -- a word is one of the vocabulary's
    pub word_known : (f : ℕ) → Due arities start t ws s (word f ∷ es) → f < length arities
    word_known f d =
        let is = starts_word d.next f es (pending d.frames) d.left in
        let w : Formed (length arities) (λ w. get_or arities w 0) (app f is.0) = subst (Formed (length arities) (λ w. get_or arities w 0)) is.1 d.formed in
        w.0

    no_terms : (ts : Terms) → size ts ≡ 0 → ts ≡ nil
    no_terms nil h = refl
    no_terms (cons x xs) h = absurd (omega arith)

    -- a word without arguments
    bare : (f : ℕ) (d : Due arities start t ws s (word f ∷ es)) → get_or arities f 0 ≡ 0 → (d.next ≡ app f nil) × (es ≡ pending d.frames)
    bare f d h =
        let is = starts_word d.next f es (pending d.frames) d.left in
        let w : Formed (length arities) (λ w. get_or arities w 0) (app f is.0) = subst (Formed (length arities) (λ w. get_or arities w 0)) is.1 d.formed in
        let e = no_terms is.0 (w.1 ∙ h) in
        (is.1 ∙ ap (app f) e, is.2 ∙ ap (λ (ts : Terms). all_items ts ++ pending d.frames) e)

    pub bare_made : (f p : ℕ) (v : Sheet) → Due arities start t ws s (word f ∷ es) → get_or arities f 0 ≡ 0 → ComposeGives s f [] (Ok p) v → Made arities start t ws p v es
    bare_made f p v d h g =
        let is = bare f d h in
        let put : Put s (app f nil) p v =
        subst (λ (z : Sheet). Put s (app f nil) p z) (sym g.4) (subst (λ (q : ℕ). Put s (app f nil) q (appended s (composed f []))) (sym g.3) (built none)) in
        due_made ws s (word f ∷ es) es d p v (subst (λ (y : Term). Put s y p v) (sym is.0) put) is.1

    pub bare_refused : (f : ℕ) (e : RowFault) (v : Sheet) → Due arities start t ws s (word f ∷ es) → get_or arities f 0 ≡ 0 → ComposeGives s f [] (Err e) v → Overfull start t
    bare_refused f TooMany v d h g = let m = g.0 in absurd (omega arith)
    bare_refused f (Missing i) v d h g = let m = g.1.within in absurd (omega arith)
    bare_refused f Label v d h g = absurd g
    bare_refused f Full v d h g =
        let is = bare f d h in
        let u = appended s (composed f []) in
        let n = appended_length s (composed f []) in
        let m = g.2 in
        due_overfull ws s (word f ∷ es) d (length s.rows) u (subst (λ (y : Term). Put s y (length s.rows) u) (sym is.0) (built none)) (omega arith)

    -- a word with arguments is opened
    opened_by : (f : ℕ) (w : OpenWord) → w.word ≡ f → w.takes ≡ get_or arities f 0 → given_to w ≡ [] → w.takes ≤ 6 → 0 < get_or arities f 0 →
        (next : Term) (frames : List Frame) (depth : ℕ) → Formed (length arities) (λ w. get_or arities w 0) next → Nested next depth → Framed arities s frames depth → AreOpen ws frames →
        ((p r : ℕ) (v u : Sheet) → Put s next p v → Leads frames p v r u → Put start t r u) →
        (ts : Terms) → next ≡ app f ts → es ≡ all_items ts ++ pending frames → Due arities start t (w ∷ ws) s es
    opened_by f w iw it ir few pos next frames depth formed nested framed opened leads nil e left =
        let k : Formed (length arities) (λ w. get_or arities w 0) (app f nil) = subst (Formed (length arities) (λ w. get_or arities w 0)) e formed in
        let m = k.1 in
        absurd (omega arith)
    opened_by f w iw it ir few pos next frames zero formed nested framed opened leads (cons a as') e left =
        absurd (subst (λ (y : Term). Nested y 0) e nested)
    opened_by f w iw it ir few pos next frames (suc depth) formed nested framed opened leads (cons a as') e left =
        let k : Formed (length arities) (λ w. get_or arities w 0) (app f (cons a as')) = subst (Formed (length arities) (λ w. get_or arities w 0)) e formed in
        let n : Nested (app f (cons a as')) (suc depth) = subst (λ (y : Term). Nested y (suc depth)) e nested in
        let m = k.1 in
        record {
          next = a;
          frames = record { word = f; rows = []; rest = as' } ∷ frames;
          depth = depth;
          formed = k.2.0;
          nested = n.0;
          framed = (k.2.1, n.1, (λ i l. absurd (omega arith)), framed);
          opened = (record { word = iw; takes = omega arith; few = few; rows = ir }, opened);
          leads = λ p r v u put l. leads (length l.1.rows) r (appended l.1 (composed f (p ∷ l.0))) u (subst (λ (y : Term). Put s y (length l.1.rows) (appended l.1 (composed f (p ∷ l.0)))) (sym e) (built (each put l.2))) l.3;
          left = left ∙ append_assoc (items a) (all_items as') (pending frames);
        }

    pub word_opened : (f : ℕ) (w : OpenWord) → Due arities start t ws s (word f ∷ es) → w.word ≡ f → w.takes ≡ get_or arities f 0 → given_to w ≡ [] → w.takes ≤ 6 → 0 < get_or arities f 0 → Due arities start t (w ∷ ws) s es
    word_opened f w d iw it ir few pos =
        let is = starts_word d.next f es (pending d.frames) d.left in
        opened_by f w iw it ir few pos d.next d.frames d.depth d.formed d.nested d.framed d.opened d.leads is.0 is.1 is.2

    deep : (f : ℕ) (ts : Terms) (next : Term) (depth : ℕ) → next ≡ app f ts → Nested next depth → 0 < size ts → 0 < depth
    deep f nil next depth e n h = absurd (omega arith)
    deep f (cons a as') next zero e n h = absurd (subst (λ (y : Term). Nested y 0) e n)
    deep f (cons a as') next (suc depth) e n h = omega arith

    -- and there is room for it
    pub word_room : (f : ℕ) → Due arities start t ws s (word f ∷ es) → 0 < get_or arities f 0 → length ws < 31
    word_room f d pos =
        let is = starts_word d.next f es (pending d.frames) d.left in
        let w : Formed (length arities) (λ w. get_or arities w 0) (app f is.0) = subst (Formed (length arities) (λ w. get_or arities w 0)) is.1 d.formed in
        let many = w.1 in
        let a = deep f is.0 d.next d.depth is.1 d.nested (omega arith) in
        let b = framed_depth arities s d.frames d.depth d.framed in
        let c = open_length ws d.frames d.opened in
        omega arith

below_last : (xs : List ℕ) (p n : ℕ) → Below (length xs) (λ i. get_or xs i 0 < n) → p < n → Below (length (xs ++ (p ∷ []))) (λ i. get_or (xs ++ (p ∷ [])) i 0 < n)
below_last [] p n b h zero l = h
below_last [] p n b h (suc i) l = absurd (omega arith)
below_last (x ∷ xs) p n b h zero l = b 0 (omega arith)
below_last (x ∷ xs) p n b h (suc i) l = below_last xs p n (λ j k. b (suc j) (omega arith)) h i (omega arith)

-- The open word is w, with one argument more.
pub record OneMore (w : OpenWord) (p : ℕ) (v : OpenWord) : Type 0 where
  pub word : v.word ≡ w.word
  pub takes : v.takes ≡ w.takes
  pub rows : given_to v ≡ given_to w ++ (p ∷ [])

-- The innermost open word is the last of the list.
last_inner : (l k : List OpenWord) (w : OpenWord) → l ≡ k ++ (w ∷ []) → reverse l ≡ w ∷ reverse k
last_inner l k w e = ap reverse e ∙ reverse-append k (w ∷ [])

pub made_popped : (arities : List ℕ) (start : Sheet) (t : Term) (l k : List OpenWord) (w : OpenWord) (p : ℕ) (s : Sheet) (es : List Entry) → l ≡ k ++ (w ∷ []) → Made arities start t (reverse l) p s es → Made arities start t (w ∷ reverse k) p s es
made_popped arities start t l k w p s es e m = subst (λ (ws : List OpenWord). Made arities start t ws p s es) (last_inner l k w e) m

pub due_pushed : (arities : List ℕ) (start : Sheet) (t : Term) (l k : List OpenWord) (w : OpenWord) (s : Sheet) (es : List Entry) → l ≡ k ++ (w ∷ []) → Due arities start t (w ∷ reverse k) s es → Due arities start t (reverse l) s es
due_pushed arities start t l k w s es e d = subst (λ (ws : List OpenWord). Due arities start t ws s es) (sym (last_inner l k w e)) d

-- A row is given to the innermost open word.
module _ (arities : List ℕ) (start : Sheet) (t : Term) (w : OpenWord) (ws : List OpenWord) (p : ℕ) (s : Sheet) (es : List Entry) where
  abbrev frame : ℕ → List ℕ → Terms → Frame
  frame f rows rest = record { word = f; rows = rows; rest = rest }

  room_by : (fs : List Frame) → AreOpen (w ∷ ws) fs → length (given_to w) < 6
  room_by [] o = absurd o
  room_by (f ∷ fs) o = omega (arith, ap length o.0.rows, o.0.takes, o.0.few)

  pub made_room : Made arities start t (w ∷ ws) p s es → length (given_to w) < 6
  made_room m = room_by m.frames m.opened

  module _ (v : OpenWord) (g : OneMore w p v) where
    rows_are : (f : ℕ) (rows : List ℕ) (rest : Terms) → IsOpen w (frame f rows rest) → given_to v ≡ rows ++ (p ∷ [])
    rows_are f rows rest o = g.rows ∙ ap (λ (l : List ℕ). l ++ (p ∷ [])) o.rows

    one_more : (f : ℕ) (rows : List ℕ) (rest : Terms) → IsOpen w (frame f rows rest) → length (given_to v) ≡ length rows + 1
    one_more f rows rest o = ap length (rows_are f rows rest o) ∙ length-append rows (p ∷ [])

    -- it still lacks an argument
    due_by : (f : ℕ) (rows : List ℕ) (rest : Terms) (fs : List Frame) (d : ℕ) → Framed arities s (frame f rows rest ∷ fs) d → IsOpen w (frame f rows rest) → AreOpen ws fs → p < length s.rows →
        ((r : ℕ) (u : Sheet) → Leads (frame f rows rest ∷ fs) p s r u → Put start t r u) → es ≡ pending (frame f rows rest ∷ fs) → length (given_to v) < v.takes → Due arities start t (v ∷ ws) s es
    due_by f rows nil fs d framed o opened row leads left lacks = absurd (omega (arith, one_more f rows nil o, g.takes, o.takes))
    due_by f rows (cons x xs) fs d framed o opened row leads left lacks =
        let n = length-append rows (p ∷ []) in
        let takes : v.takes ≡ length (rows ++ (p ∷ [])) + 1 + size xs = omega (arith, g.takes, o.takes) in
        record {
          next = x;
          frames = frame f (rows ++ (p ∷ [])) xs ∷ fs;
          depth = d;
          formed = framed.0.0;
          nested = framed.1.0;
          framed = (framed.0.1, framed.1.1, below_last rows p (length s.rows) framed.2 row, framed.3);
          opened = (record { word = g.word ∙ o.word; takes = takes; few = omega (arith, g.takes, o.few); rows = rows_are f rows (cons x xs) o }, opened);
          leads = λ q r y u put l.
              leads r u (q ∷ l.0, l.1, each put l.2, subst (λ (k : List ℕ). Leads fs (length l.1.rows) (appended l.1 (composed f k)) r u) (append_assoc (rows ++ (p ∷ [])) (q ∷ []) l.0) l.3);
          left = left ∙ append_assoc (items x) (all_items xs) (pending fs);
        }

    pub given_due : Made arities start t (w ∷ ws) p s es → length (given_to v) < v.takes → Due arities start t (v ∷ ws) s es
    given_due m = go m.frames m.depth m.framed m.opened m.leads m.left
      where
        go : (fs : List Frame) (d : ℕ) → Framed arities s fs d → AreOpen (w ∷ ws) fs → ((r : ℕ) (u : Sheet) → Leads fs p s r u → Put start t r u) → es ≡ pending fs → length (given_to v) < v.takes → Due arities start t (v ∷ ws) s es
        go [] d framed o leads left = absurd o
        go (f ∷ fs) d framed o leads left = due_by f.word f.rows f.rest fs d framed o.0 o.1 m.row leads left

    -- it has all: it is composed
    made_by : (f : ℕ) (rows : List ℕ) (rest : Terms) (fs : List Frame) (d : ℕ) → Framed arities s (frame f rows rest ∷ fs) d → IsOpen w (frame f rows rest) → AreOpen ws fs →
        ((r : ℕ) (u : Sheet) → Leads (frame f rows rest ∷ fs) p s r u → Put start t r u) → es ≡ pending (frame f rows rest ∷ fs) → v.takes ≤ length (given_to v) → (q : ℕ) (u : Sheet) → q ≡ length s.rows → u ≡ appended s (composed v.word (given_to v)) → Made arities start t ws q u es
    made_by f rows (cons x xs) fs d framed o opened leads left full q u iq iu = absurd (omega (arith, one_more f rows (cons x xs) o, g.takes, o.takes))
    made_by f rows nil fs d framed o opened leads left full q u iq iu =
        let row = composed f ((rows ++ (p ∷ [])) ++ []) in
        let same : given_to v ≡ (rows ++ (p ∷ [])) ++ [] = rows_are f rows nil o ∙ sym (append-nil (rows ++ (p ∷ []))) in
        let is : u ≡ appended s row = iu ∙ (λ i. appended s (composed ((g.word ∙ o.word) i) (same i))) in
        let n = ap (λ (z : Sheet). length z.rows) is ∙ appended_length s row in
        record {
          frames = fs;
          depth = suc d;
          framed = framed_grows arities s u fs (suc d) (omega arith) framed.3;
          opened = opened;
          row = omega arith;
          leads = λ r x l. leads r x ([], s, none, subst (λ (z : Sheet). Leads fs (length s.rows) z r x) is (subst (λ (k : ℕ). Leads fs k u r x) iq l));
          left = left;
        }

    pub given_made : Made arities start t (w ∷ ws) p s es → v.takes ≤ length (given_to v) → (q : ℕ) (u : Sheet) → ComposeGives s v.word (given_to v) (Ok q) u → Made arities start t ws q u es
    given_made m full q u c = go m.frames m.depth m.framed m.opened m.leads m.left
      where
        go : (fs : List Frame) (d : ℕ) → Framed arities s fs d → AreOpen (w ∷ ws) fs → ((r : ℕ) (u : Sheet) → Leads fs p s r u → Put start t r u) → es ≡ pending fs → Made arities start t ws q u es
        go [] d framed o leads left = absurd o
        go (f ∷ fs) d framed o leads left = made_by f.word f.rows f.rest fs d framed o.0 o.1 leads left full q u c.3 c.4

    -- the rows that are given to it are rows, and no more than six
    fit_by : (fs : List Frame) (d : ℕ) → Framed arities s fs d → AreOpen (w ∷ ws) fs → p < length s.rows → (length (given_to v) ≤ 6) × AreRows s (given_to v)
    fit_by [] d framed o row = absurd o
    fit_by (f ∷ fs) d framed o row =
        let e = rows_are f.word f.rows f.rest o.0 in
        let n = length-append f.rows (p ∷ []) in
        let a = o.0.takes in
        let b = o.0.few in
        let long = ap length e in
        (omega arith, subst (AreRows s) (sym e) (below_last f.rows p (length s.rows) framed.2 row))

    pub given_refused : Made arities start t (w ∷ ws) p s es → v.takes ≤ length (given_to v) → (e : RowFault) (u : Sheet) → ComposeGives s v.word (given_to v) (Err e) u → Overfull start t
    given_refused m full TooMany u c = let f = (fit_by m.frames m.depth m.framed m.opened m.row).0 in let a = c.0 in absurd (omega arith)
    given_refused m full (Missing i) u c = let f = (fit_by m.frames m.depth m.framed m.opened m.row).1 in absurd (c.1.fails (f i c.1.within))
    given_refused m full Label u c = absurd c
    given_refused m full Full u c =
        let row = composed v.word (given_to v) in
        let f = fit_by m.frames m.depth m.framed m.opened m.row in
        let n = appended_length s row in
        let x = go m.frames m.depth m.framed m.opened m.leads m.left in
        let k = leads_total x.frames (length s.rows) (appended s row) in
        let a = c.2 in
        let b = k.3 in
        (k.0, k.1, x.leads k.0 k.1 k.2, omega arith)
      where
        go : (fs : List Frame) (d : ℕ) → Framed arities s fs d → AreOpen (w ∷ ws) fs → ((r : ℕ) (u : Sheet) → Leads fs p s r u → Put start t r u) → es ≡ pending fs → Made arities start t ws (length s.rows) (appended s (composed v.word (given_to v))) es
        go [] d framed o leads left = absurd o
        go (f ∷ fs) d framed o leads left = made_by f.word f.rows f.rest fs d framed o.0 o.1 leads left full (length s.rows) (appended s (composed v.word (given_to v))) refl refl

-- With no word open, the row is that of the whole.
pub made_whole : (arities : List ℕ) (start : Sheet) (t : Term) (p : ℕ) (s : Sheet) (es : List Entry) → Made arities start t [] p s es → (es ≡ []) × Put start t p s
made_whole arities start t p s es m = go m.frames m.opened m.leads m.left
  where
    go : (fs : List Frame) → AreOpen [] fs → ((r : ℕ) (u : Sheet) → Leads fs p s r u → Put start t r u) → es ≡ pending fs → (es ≡ []) × Put start t p s
    go [] o leads left = (left, leads p s (refl, refl))
    go (f ∷ fs) o leads left = absurd o

-- A refusal says that there are too many rows.
pub comes_refused : (arities : List ℕ) (start : Sheet) (t : Term) (r : Result (Option ℕ) NoRoom) (e : NoRoom) (ws : List OpenWord) (s : Sheet) (es : List Entry) → r ≡ Err e → Overfull start t → Comes arities start t r ws s es
comes_refused arities start t r e ws s es is h = subst (λ (q : Result (Option ℕ) NoRoom). Comes arities start t q ws s es) (sym is) h

-- What else comes of a step.
pub comes_whole : (arities : List ℕ) (start : Sheet) (t : Term) (r : Result (Option ℕ) NoRoom) (o : Option ℕ) (p : ℕ) (ws : List OpenWord) (s : Sheet) (es : List Entry) → r ≡ Ok o → o ≡ Some p → Comes arities start t r ws s es → Put start t p s
comes_whole arities start t r o p ws s es e f h =
    let k : Comes arities start t (Ok (Some p)) ws s es = subst (λ (q : Result (Option ℕ) NoRoom). Comes arities start t q ws s es) (e ∙ ap Ok f) h in
    k.1

pub comes_due : (arities : List ℕ) (start : Sheet) (t : Term) (r : Result (Option ℕ) NoRoom) (o : Option ℕ) (ws : List OpenWord) (s : Sheet) (es : List Entry) → r ≡ Ok o → o ≡ None → Comes arities start t r ws s es → Due arities start t ws s es
comes_due arities start t r o ws s es e f h = subst (λ (q : Result (Option ℕ) NoRoom). Comes arities start t q ws s es) (e ∙ ap Ok f) h
