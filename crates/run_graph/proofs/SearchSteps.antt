-- The steps of a search keep what it keeps.
use Rattle.std.proofs.Common.{◌≡◌, ℕ, zero, suc, ◌==◌, ◌<◌, ◌≤◌, ◌+◌, ◌||◌, ◌⊎◌, Bool, true, false, Some}
use Rattle.std.proofs.Common.{List, [], ◌∷◌, length, set, get_or, slice_get, refl, sym, ◌∙◌, ap, subst, inl}
use Rattle.std.proofs.Common.{inr, arith}
use Rattle.std.proofs.lemmas.List.{length-set, get_or-set_same, get_or-set_other}
use Rattle.std.proofs.lemmas.Bool.{both_ways, or_cases, or_left, or_right, or_parts, cases_eq, cases_lt}
use Rattle.std.proofs.lemmas.Option.{slice_get_within}
use Rattle.run_graph.specs.declared.search.Frame.{Frame}
use Rattle.module_tree.specs.Runs.{is_among}
use Rattle.run_graph.specs.Reach.{callees, Runs, Reaches, itself, by_run}
use Rattle.run_graph.specs.Search.{IsPath, IsSearch, AreFollowed, met, modules, opening}
use Rattle.run_graph.proofs.Members.{among_cases, among_head, among_tail, not_among_cons, not_eq}
use Rattle.run_graph.proofs.ComponentLemmas.{reaches_on}

-- ---- what is met stays met

more_followed : (test more : ℕ → Bool) (runs : List (List ℕ)) (fs : List Frame)
    → ((n : ℕ) → test n ≡ true → more n ≡ true)
    → AreFollowed test runs fs → AreFollowed more runs fs
more_followed test more runs [] kept a = tt
more_followed test more runs (f ∷ fs) kept (a, b) =
    (λ k n l e. kept n (a k n l e), more_followed test more runs fs kept b)

met_more : (finished path : List ℕ) (u n : ℕ) → met finished path n ≡ true → met finished (u ∷ path) n ≡ true
met_more finished path u n e = elim (or_cases (is_among finished n) (is_among path n) e) [
  | inl a ↦ or_left (is_among finished n) (is_among (u ∷ path) n) a
  | inr b ↦ or_right (is_among finished n) (is_among (u ∷ path) n) (among_tail u path n b)
]

met_in_path : (finished path : List ℕ) (n : ℕ) → is_among path n ≡ true → met finished path n ≡ true
met_in_path finished path n e = or_right (is_among finished n) (is_among path n) e

met_finished : (finished path : List ℕ) (n : ℕ) → is_among finished n ≡ true → met finished path n ≡ true
met_finished finished path n e = or_left (is_among finished n) (is_among path n) e

-- the module that is finished is met before and after
met_moves : (finished path : List ℕ) (m n : ℕ) → met finished (m ∷ path) n ≡ met (m ∷ finished) path n
met_moves finished path m n = by (is_among finished n) (m == n) (is_among path n)
  where
    by : (a b c : Bool) → (a || (b || c)) ≡ ((b || a) || c)
    by true true c = refl
    by true false c = refl
    by false true c = refl
    by false false c = refl

-- ---- a module is opened

path_more : (runs : List (List ℕ)) (finished : List ℕ) (path : List ℕ) (m : ℕ) → IsPath runs path
    → met finished path m ≡ false
    → ((n : ℕ) → is_among path n ≡ true → Reaches runs n m) → IsPath runs (m ∷ path)
path_more runs finished path m p e r = ((or_parts (is_among finished m) (is_among path m) e).1, r, p)

marks_more : (seen : List Bool) (finished path : List ℕ) (m n : ℕ) → m < length seen
    → get_or seen n false ≡ met finished path n
    → get_or (set seen m true) n false ≡ met finished (m ∷ path) n
marks_more seen finished path m n l e = elim (cases_eq n m) [
  | inl is ↦ subst (λ (k : ℕ). get_or (set seen m true) k false ≡ met finished (m ∷ path) k) (sym is)
      (get_or-set_same seen m true false l ∙ sym (or_right (is_among finished m) (is_among (m ∷ path) m)
      (among_head m path)))
  | inr not ↦ get_or-set_other seen m n true false not ∙ e
      ∙ sym (ap (λ b. is_among finished n || b) (other (m == n) (is_among path n) (not_eq n m not)))
]
  where
    other : (a b : Bool) → a ≡ false → (a || b) ≡ b
    other a b e = ap (λ c. c || b) e

pub opened : (runs : List (List ℕ)) (seen : List Bool) (path : List Frame) (finished : List ℕ) (m : ℕ)
    → IsSearch runs seen path finished → m < length runs → get_or seen m false ≡ false
    → ((n : ℕ) → is_among (modules path) n ≡ true → Reaches runs n m)
    → IsSearch runs (set seen m true) (opening m ∷ path) finished
opened runs seen path finished m s l e r =
    let not_met : met finished (modules path) m ≡ false = sym (s.marks m l) ∙ e in
    record {
      size = length-set seen m true ∙ s.size;
      marks = λ n ln. marks_more seen finished (modules path) m n (subst (λ (k : ℕ). m < k) (sym s.size) l)
          (s.marks n ln);
      range = λ n h. range_more n (or_cases (is_among finished n) (is_among (m ∷ modules path) n) h);
      path_reaches = path_more runs finished (modules path) m s.path_reaches not_met r;
      apart = λ n h. apart_more n (among_cases m (modules path) n h)
          (or_parts (is_among finished m) (is_among (modules path) m) not_met).0;
      followed = (
        λ k n lt at. absurd (omega arith),
        more_followed (met finished (modules path))
            (met finished (m ∷ modules path)) runs path (met_more finished (modules path) m) s.followed,
      );
      finished_followed = λ n k f h. met_more finished (modules path) m k (s.finished_followed n k f h);
      order = s.order;
    }
  where
    range_more : (n : ℕ) → (is_among finished n ≡ true) ⊎ (is_among (m ∷ modules path) n ≡ true)
        → n < length runs
    range_more n (inl a) = s.range n (met_finished finished (modules path) n a)
    range_more n (inr b) = elim (among_cases m (modules path) n b) [
      | inl is ↦ subst (λ (k : ℕ). k < length runs) is l
      | inr c ↦ s.range n (met_in_path finished (modules path) n c)
    ]

    apart_more : (n : ℕ) → (m ≡ n) ⊎ (is_among (modules path) n ≡ true) → is_among finished m ≡ false
        → is_among finished n ≡ false
    apart_more n (inl is) h = subst (λ (k : ℕ). is_among finished k ≡ false) is h
    apart_more n (inr c) h = s.apart n c

-- a run leads from each module of the path
pub reached_from_path : (runs : List (List ℕ)) (m : ℕ) (path : List ℕ) (n : ℕ) → IsPath runs (m ∷ path)
    → Runs runs m n
    → (k : ℕ) → is_among (m ∷ path) k ≡ true → Reaches runs k n
reached_from_path runs m path n p r k a = elim (among_cases m path k a) [
  | inl is ↦ subst (λ (j : ℕ). Reaches runs j n) is (by_run m n n r (itself n))
  | inr b ↦ reaches_on runs k m n (p.1 k b) (by_run m n n r (itself n))
]

-- a place in a list is a member
pub among_at : (ms : List ℕ) (k n : ℕ) → slice_get ms k ≡ Some n → is_among ms n ≡ true
among_at [] k n e = cc
among_at (m ∷ ms) zero n e = let is : m ≡ n = cc in subst (λ (j : ℕ). is_among (m ∷ ms) j ≡ true) is
    (among_head m ms)
among_at (m ∷ ms) (suc k) n e = among_tail m ms n (among_at ms k n e)

pub place_of : (ms : List ℕ) (n : ℕ) → is_among ms n ≡ true → (k : ℕ) × (slice_get ms k ≡ Some n)
place_of [] n e = absurd (both_ways false refl e)
place_of (m ∷ ms) n e = elim (among_cases m ms n e) [
  | inl is ↦ (0, ap Some is)
  | inr a ↦ (let p : (k : ℕ) × (slice_get ms k ≡ Some n) = place_of ms n a in (suc p.0, p.1))
]

-- ---- a run is followed

-- one more run of the module is followed
one_more : (runs : List (List ℕ)) (test : ℕ → Bool) (f : Frame) (n : ℕ)
    → ((k m : ℕ) → k < f.next → slice_get (callees runs f.at) k ≡ Some m → test m ≡ true)
    → slice_get (callees runs f.at) f.next ≡ Some n → test n ≡ true
    → (k m : ℕ) → k < f.next + 1 → slice_get (callees runs f.at) k ≡ Some m → test m ≡ true
one_more runs test f n before at h k m l e = elim (cases_lt k f.next) [
  | inl lt ↦ before k m lt e
  | inr le ↦ (let is : k ≡ f.next = omega arith in
      let some : Some n ≡ Some m = sym at ∙ ap (slice_get (callees runs f.at)) (sym is) ∙ e in
      let same : n ≡ m = cc in subst (λ (j : ℕ). test j ≡ true) same h)
]

pub followed_one : (runs : List (List ℕ)) (seen : List Bool) (f : Frame) (path : List Frame)
    (finished : List ℕ) (n : ℕ)
    → IsSearch runs seen (f ∷ path) finished → slice_get (callees runs f.at) f.next ≡ Some n
    → get_or seen n false ≡ true → n < length runs
    → IsSearch runs seen (record { at = f.at; next = f.next + 1 } ∷ path) finished
followed_one runs seen f path finished n s at h l = record {
  size = s.size;
  marks = s.marks;
  range = s.range;
  path_reaches = s.path_reaches;
  apart = s.apart;
  followed = (
    one_more runs (met finished (modules (f ∷ path))) f n s.followed.0 at
        (sym (s.marks n l) ∙ h),
    s.followed.1,
  );
  finished_followed = s.finished_followed;
  order = s.order;
}

pub followed_new : (runs : List (List ℕ)) (seen : List Bool) (f : Frame) (path : List Frame)
    (finished : List ℕ) (n : ℕ)
    → IsSearch runs seen (f ∷ path) finished → slice_get (callees runs f.at) f.next ≡ Some n
    → get_or seen n false ≡ false → n < length runs
    → IsSearch runs (set seen n true) (opening n ∷ record { at = f.at; next = f.next + 1 } ∷ path) finished
followed_new runs seen f path finished n s at h l =
    let o : IsSearch runs (set seen n true) (opening n ∷ f ∷ path) finished =
    opened runs seen (f ∷ path) finished n s l h (reached_from_path runs f.at (modules path) n
    s.path_reaches (among_at (callees runs f.at) f.next n at)) in
    record {
      size = o.size;
      marks = o.marks;
      range = o.range;
      path_reaches = o.path_reaches;
      apart = o.apart;
      followed = (
        o.followed.0,
        (
          one_more runs (met finished (modules (opening n ∷ f ∷ path))) f n
              o.followed.1.0 at (met_in_path finished (n ∷ f.at ∷ modules path) n
              (among_head n (f.at ∷ modules path))),
          o.followed.1.1,
        ),
      );
      finished_followed = o.finished_followed;
      order = o.order;
    }

-- ---- a module is finished

pub finished_one : (runs : List (List ℕ)) (seen : List Bool) (f : Frame) (path : List Frame)
    (finished : List ℕ)
    → IsSearch runs seen (f ∷ path) finished → length (callees runs f.at) ≤ f.next
    → IsSearch runs seen path (f.at ∷ finished)
finished_one runs seen f path finished s l = record {
  size = s.size;
  marks = λ m lm. s.marks m lm ∙ met_moves finished (modules path) f.at m;
  range = λ m h. s.range m (met_moves finished (modules path) f.at m ∙ h);
  path_reaches = s.path_reaches.2;
  apart = λ m h. not_among_cons f.at finished m (λ is. both_ways (is_among (modules path) f.at)
      s.path_reaches.0 (subst (λ (j : ℕ). is_among (modules path) j ≡ true) (sym is) h))
      (s.apart m (among_tail f.at (modules path) m h));
  followed = more_followed (met finished (modules (f ∷ path))) (met (f.at ∷ finished) (modules path)) runs
      path (λ n h. sym (met_moves finished (modules path) f.at n) ∙ h) s.followed.1;
  finished_followed = λ m n a r. sym (met_moves finished (modules path) f.at n) ∙ all_met m n a r;
  order = (s.apart f.at (among_head f.at (modules path)), ordered, s.order);
}
  where
    all_met : (m n : ℕ) → is_among (f.at ∷ finished) m ≡ true → Runs runs m n
        → met finished (modules (f ∷ path)) n ≡ true
    all_met m n a r = elim (among_cases f.at finished m a) [
      | inl is ↦ (let p : (k : ℕ) × (slice_get (callees runs f.at) k ≡ Some n) =
          place_of (callees runs f.at) n (subst (λ (j : ℕ). Runs runs j n) (sym is) r) in
          let within : p.0 < length (callees runs f.at) = slice_get_within (callees runs f.at) p.0 n p.1 in
          s.followed.0 p.0 n (omega arith) p.1)
      | inr b ↦ s.finished_followed m n b r
    ]

    ordered : (m n : ℕ) → is_among (f.at ∷ finished) m ≡ true → Runs runs m n
        → (is_among finished n ≡ true) ⊎ Reaches runs n f.at
    ordered m n a r = elim (or_cases (is_among finished n) (is_among (modules (f ∷ path)) n)
        (all_met m n a r)) [
          | inl b ↦ inl b
          | inr c ↦ elim (among_cases f.at (modules path) n c) [
            | inl is ↦ inr (subst (λ (j : ℕ). Reaches runs j f.at) is (itself f.at))
            | inr d ↦ inr (s.path_reaches.1 n d)
          ]
        ]
