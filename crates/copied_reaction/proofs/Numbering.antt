-- The order in which touches stand does not change the ids of new instances, where these stand in the order
-- of their sites.
use Rattle.std.proofs.Common.{◌≡◌, ℕ, zero, suc, ◌≤◌, ◌<◌, Bool, true, false, cond, List, [], ◌∷◌, map, refl}
use Rattle.std.proofs.Common.{sym, ap}
use Rattle.std.proofs.Common.{subst, ◌∙◌, arith}
use Rattle.std.specs.Prelude.{nat_le, IsPermutation}
use Rattle.std.specs.List.{AllByRecursion, filter}
use Rattle.std.proofs.lemmas.Bool.{leb-false}
use Rattle.std.proofs.lemmas.List.Sorted.{IsPermutation-refl, IsPermutation-sym, IsPermutation-trans}
use Rattle.std.proofs.lemmas.List.Sorted.{IsPermutation-cons}
use Rattle.std.proofs.lemmas.List.Sorted.{IsPermutation-map, IsPermutation-middle}
use Rattle.hh_term.specs.Statement.{Statement, Pause, If, Suspend, Seq, Par, Loop, Trap, Local, Async}
use Rattle.hh_term.specs.Selection.{Selection, AtPause, AtAsync, First, Second, Both, Inside, Scope}
use Rattle.hh_term.specs.Touches.{Touch, in_place, by_site, numbered, marks_numbered}
use Rattle.loop_copy.specs.Stands.{Stands}
use Rattle.copy_laws.specs.Stepping.{counted_at}
use Rattle.copied_reaction.specs.Reacting.{is_new}
use Rattle.copied_reaction.proofs.News.{Ascends, new_sites, site_in}

-- a touch, numbered where it is of a new instance, and then others
abbrev one : Bool → ℕ → Touch → (ℕ → List Touch) → List Touch
one true last t rest = (record t { id = suc last }) ∷ rest (suc last)
one false last t rest = t ∷ rest last

is_one : (b : Bool) (last : ℕ) (t : Touch) (rest : ℕ → List Touch)
    → cond b ((record t { id = suc last }) ∷ rest (suc last)) (t ∷ rest last) ≡ one b last t rest
is_one true last t rest = refl
is_one false last t rest = refl

step_numbered : (last : ℕ) (t : Touch) (ts : List Touch)
    → numbered last (t ∷ ts) ≡ one (is_new t) last t (λ l. numbered l ts)
step_numbered last t ts = is_one (is_new t) last t (λ l. numbered l ts)

one_permutes : (b : Bool) (last : ℕ) (t : Touch) (M N : ℕ → List Touch)
    → ((l : ℕ) → IsPermutation (M l) (N l))
    → IsPermutation (one b last t M) (one b last t N)
one_permutes true last t M N h = IsPermutation-cons (record t { id = suc last }) (M (suc last)) (N (suc last))
    (h (suc last))
one_permutes false last t M N h = IsPermutation-cons t (M last) (N last) (h last)

two_swap : (t u : Touch) (xs : List Touch) → IsPermutation (u ∷ t ∷ xs) (t ∷ u ∷ xs)
two_swap t u xs = IsPermutation-middle (u ∷ []) t xs

-- of two touches at most one is of a new instance: their order does not matter
swapped : (bu bt : Bool) (last : ℕ) (t u : Touch) (M N : ℕ → List Touch) → (bt ≡ true → bu ≡ false)
    → ((l : ℕ) → IsPermutation (M l) (one bt l t N))
    → IsPermutation (one bu last u M) (one bt last t (λ l. one bu l u N))
swapped true true last t u M N other h = absurd (let is = other refl in let no : ⊥ = cc in no)
swapped true false last t u M N other h =
    let v : Touch = record u { id = suc last } in
    IsPermutation-trans (v ∷ M (suc last)) (v ∷ t ∷ N (suc last)) (t ∷ v ∷ N (suc last))
    (IsPermutation-cons v (M (suc last)) (t ∷ N (suc last)) (h (suc last))) (two_swap t v (N (suc last)))
swapped false true last t u M N other h =
    let v : Touch = record t { id = suc last } in
    IsPermutation-trans (u ∷ M last) (u ∷ v ∷ N (suc last)) (v ∷ u ∷ N (suc last))
    (IsPermutation-cons u (M last) (v ∷ N (suc last)) (h last)) (two_swap v u (N (suc last)))
swapped false false last t u M N other h =
    IsPermutation-trans (u ∷ M last) (u ∷ t ∷ N last) (t ∷ u ∷ N last)
    (IsPermutation-cons u (M last) (t ∷ N last) (h last)) (two_swap t u (N last))

-- ---- a touch that is put in its place

behind : (P : ℕ → Type 0) (b : Bool) (u : Touch) (ts : List Touch)
    → AllByRecursion P (map site_in (cond b (u ∷ ts) ts))
    → AllByRecursion P (map site_in ts)
behind P true u ts h = h.1
behind P false u ts h = h

-- a new instance stands before no other new one of a lower site
not_both : (t u : Touch) (us : List Touch) → u.site < t.site
    → (is_new t ≡ true → AllByRecursion (λ s. t.site ≤ s) (new_sites (u ∷ us))) → is_new t ≡ true
    → is_new u ≡ false
not_both t u us l h new = by_test (is_new u) (h new)
  where
    by_test : (b : Bool)
        → AllByRecursion (λ s. t.site ≤ s) (map site_in (cond b (u ∷ filter is_new us) (filter is_new us)))
        → b ≡ false
    by_test false k = refl
    by_test true k = absurd (let no : ⊥ = (let le = k.0 in omega (arith, l, le)) in no)

placed_numbered : (t : Touch) (us : List Touch) (last : ℕ)
    → (is_new t ≡ true → AllByRecursion (λ s. t.site ≤ s) (new_sites us))
    → IsPermutation (numbered last (in_place t us)) (numbered last (t ∷ us))
placed_numbered t [] last h = IsPermutation-refl (numbered last (t ∷ []))
placed_numbered t (u ∷ us) last h = by_test (nat_le t.site u.site) refl
    (λ l. placed_numbered t us l (λ new. behind (λ s. t.site ≤ s) (is_new u) u (filter is_new us) (h new)))
  where
    by_test : (b : Bool) → nat_le t.site u.site ≡ b
        → ((l : ℕ) → IsPermutation (numbered l (in_place t us)) (numbered l (t ∷ us)))
        → IsPermutation (numbered last (cond b (t ∷ u ∷ us) (u ∷ in_place t us))) (numbered last (t ∷ u ∷ us))
    by_test true e k = IsPermutation-refl (numbered last (t ∷ u ∷ us))
    by_test false e k =
        let lt : u.site < t.site = leb-false t.site u.site e in
        let rest : ℕ → List Touch = λ l. numbered l us in
        let moved = swapped (is_new u) (is_new t) last t u (λ l. numbered l (in_place t us)) rest
        (not_both t u us lt h)
        (λ l. subst (λ xs. IsPermutation (numbered l (in_place t us)) xs) (step_numbered l t us) (k l)) in
        subst (λ xs. IsPermutation xs (numbered last (t ∷ u ∷ us)))
        (sym (step_numbered last u (in_place t us)))
        (subst (λ xs. IsPermutation (one (is_new u) last u (λ l. numbered l (in_place t us))) xs)
        (sym (two_numbered last)) moved)
      where
        two_numbered : (l : ℕ) → numbered l (t ∷ u ∷ us)
            ≡ one (is_new t) l t (λ k. one (is_new u) k u (λ j. numbered j us))
        two_numbered l = step_numbered l t (u ∷ us) ∙ by_new (is_new t)
          where
            by_new : (b : Bool) → one b l t (λ k. numbered k (u ∷ us))
                ≡ one b l t (λ k. one (is_new u) k u (λ j. numbered j us))
            by_new true = ap (λ xs. (record t { id = suc l }) ∷ xs) (step_numbered (suc l) u us)
            by_new false = ap (λ xs. t ∷ xs) (step_numbered l u us)

-- the new ones among the touches stand as before
arranged : (bu bt : Bool) (t u : Touch) (xs ys : List Touch) → (bt ≡ true → bu ≡ false)
    → xs ≡ cond bt (t ∷ ys) ys
    → cond bu (u ∷ xs) xs ≡ cond bt (t ∷ cond bu (u ∷ ys) ys) (cond bu (u ∷ ys) ys)
arranged true true t u xs ys other e = absurd (let is = other refl in let no : ⊥ = cc in no)
arranged true false t u xs ys other e = ap (λ zs. u ∷ zs) e
arranged false true t u xs ys other e = e
arranged false false t u xs ys other e = e

placed_new : (t : Touch) (us : List Touch)
    → (is_new t ≡ true → AllByRecursion (λ s. t.site ≤ s) (new_sites us))
    → filter is_new (in_place t us) ≡ filter is_new (t ∷ us)
placed_new t [] h = refl
placed_new t (u ∷ us) h = by_test (nat_le t.site u.site) refl
    (placed_new t us (λ new. behind (λ s. t.site ≤ s) (is_new u) u (filter is_new us) (h new)))
  where
    by_test : (b : Bool) → nat_le t.site u.site ≡ b → filter is_new (in_place t us) ≡ filter is_new (t ∷ us)
        → filter is_new (cond b (t ∷ u ∷ us) (u ∷ in_place t us)) ≡ filter is_new (t ∷ u ∷ us)
    by_test true e k = refl
    by_test false e k =
        arranged (is_new u) (is_new t) t u (filter is_new (in_place t us)) (filter is_new us)
        (not_both t u us (leb-false t.site u.site e) h) k

-- ---- touches in the order of sites

head_ascends : (b : Bool) (t : Touch) (ts : List Touch) → Ascends (map site_in (cond b (t ∷ ts) ts))
    → (b ≡ true → AllByRecursion (λ s. t.site ≤ s) (map site_in ts)) × Ascends (map site_in ts)
head_ascends true t ts h = ((λ e. h.0), h.1)
head_ascends false t ts h = ((λ e. absurd (let no : ⊥ = cc in no)), h)

pub new_by_site : (ts : List Touch) → Ascends (new_sites ts) → filter is_new (by_site ts) ≡ filter is_new ts
new_by_site [] h = refl
new_by_site (t ∷ ts) h =
    let a = head_ascends (is_new t) t (filter is_new ts) h in
    let same = new_by_site ts a.1 in
    placed_new t (by_site ts) (λ new. subst (λ xs. AllByRecursion (λ s. t.site ≤ s) (map site_in xs))
    (sym same) (a.0 new))
    ∙ ap (λ xs. cond (is_new t) (t ∷ xs) xs) same

pub numbered_by_site : (ts : List Touch) (last : ℕ) → Ascends (new_sites ts)
    → IsPermutation (numbered last (by_site ts)) (numbered last ts)
numbered_by_site [] last h = IsPermutation-refl []
numbered_by_site (t ∷ ts) last h =
    let a = head_ascends (is_new t) t (filter is_new ts) h in
    let same = new_by_site ts a.1 in
    let rest = one_permutes (is_new t) last t (λ l. numbered l (by_site ts)) (λ l. numbered l ts)
    (λ l. numbered_by_site ts l a.1) in
    IsPermutation-trans (numbered last (by_site (t ∷ ts))) (numbered last (t ∷ by_site ts))
    (numbered last (t ∷ ts))
    (placed_numbered t (by_site ts) last
    (λ new. subst (λ xs. AllByRecursion (λ s. t.site ≤ s) (map site_in xs)) (sym same) (a.0 new)))
    (subst (λ xs. IsPermutation xs (numbered last (t ∷ ts))) (sym (step_numbered last t (by_site ts)))
    (subst (λ xs. IsPermutation (one (is_new t) last t (λ l. numbered l (by_site ts))) xs)
    (sym (step_numbered last t ts)) rest))

-- the new ones, numbered
pub new_numbered : (last : ℕ) (ts : List Touch) → filter is_new (numbered last ts)
    ≡ numbered last (filter is_new ts)
new_numbered last [] = refl
new_numbered last (t ∷ ts) =
    by_test (is_new t) refl (new_numbered (suc last) ts) (new_numbered last ts)
  where
    v : Touch
    v = record t { id = suc last }

    by_test : (b : Bool) → is_new t ≡ b → filter is_new (numbered (suc last) ts)
        ≡ numbered (suc last) (filter is_new ts)
        → filter is_new (numbered last ts) ≡ numbered last (filter is_new ts)
        → filter is_new (cond b (v ∷ numbered (suc last) ts) (t ∷ numbered last ts))
        ≡ numbered last (cond b (t ∷ filter is_new ts) (filter is_new ts))
    by_test true e h k =
        ap (λ c. cond c (v ∷ filter is_new (numbered (suc last) ts)) (filter is_new (numbered (suc last) ts)))
        e
        ∙ ap (λ xs. v ∷ xs) h
        ∙ sym (ap (λ c. cond c (v ∷ numbered (suc last) (filter is_new ts))
        (t ∷ numbered last (filter is_new ts))) e)
    by_test false e h k =
        ap (λ c. cond c (t ∷ filter is_new (numbered last ts)) (filter is_new (numbered last ts))) e ∙ k

-- ---- touches that count as ones of other sites

module _ (original : ℕ → ℕ) where
  abbrev counts : Touch → Touch
  counts = counted_at original

  pub counted_numbered : (last : ℕ) (ts : List Touch) → map counts (numbered last ts)
      ≡ numbered last (map counts ts)
  counted_numbered last [] = refl
  counted_numbered last (t ∷ ts) =
      by_test (is_new t) (counted_numbered (suc last) ts) (counted_numbered last ts)
    where
      by_test : (b : Bool) → map counts (numbered (suc last) ts) ≡ numbered (suc last) (map counts ts)
          → map counts (numbered last ts) ≡ numbered last (map counts ts)
          → map counts (cond b ((record t { id = suc last }) ∷ numbered (suc last) ts) (t ∷ numbered last ts))
          ≡ cond b ((record (counts t) { id = suc last }) ∷ numbered (suc last) (map counts ts))
          (counts t ∷ numbered last (map counts ts))
      by_test true h k = ap (λ xs. counts (record t { id = suc last }) ∷ xs) h
      by_test false h k = ap (λ xs. counts t ∷ xs) k

  pub counted_new : (ts : List Touch) → map counts (filter is_new ts) ≡ filter is_new (map counts ts)
  counted_new [] = refl
  counted_new (t ∷ ts) = by_test (is_new t) (counted_new ts)
    where
      by_test : (b : Bool) → map counts (filter is_new ts) ≡ filter is_new (map counts ts)
          → map counts (cond b (t ∷ filter is_new ts) (filter is_new ts))
          ≡ cond b (counts t ∷ filter is_new (map counts ts)) (filter is_new (map counts ts))
      by_test true h = ap (λ xs. counts t ∷ xs) h
      by_test false h = h

  module _ (ts us : List Touch) (same : map counts us ≡ ts) (up : Ascends (new_sites ts))
      (copied_up : Ascends (new_sites us))
      (last : ℕ) where
    pub same_bag : IsPermutation (map counts (numbered last (by_site us))) (numbered last (by_site ts))
    same_bag =
        let moved = IsPermutation-map counts (numbered last (by_site us)) (numbered last us)
        (numbered_by_site us last copied_up) in
        let read = counted_numbered last us ∙ ap (numbered last) same in
        IsPermutation-trans (map counts (numbered last (by_site us))) (numbered last ts)
        (numbered last (by_site ts))
        (subst (λ xs. IsPermutation (map counts (numbered last (by_site us))) xs) read moved)
        (IsPermutation-sym (numbered last (by_site ts)) (numbered last ts) (numbered_by_site ts last up))

    pub same_new : map counts (filter is_new (numbered last (by_site us)))
        ≡ filter is_new (numbered last (by_site ts))
    same_new =
        ap (map counts) (new_numbered last (by_site us)) ∙ counted_numbered last (filter is_new (by_site us))
        ∙ ap (λ xs. numbered last (map counts xs)) (new_by_site us copied_up)
        ∙ ap (numbered last) (counted_new us)
        ∙ ap (λ xs. numbered last (filter is_new xs)) same ∙ ap (numbered last) (sym (new_by_site ts up))
        ∙ sym (new_numbered last (by_site ts))

-- ---- marks that stand for each other get the same ids

record MarksNumbered (p : Statement) (last : ℕ) (m c : Selection) : Type 0 where
  pub stands : Stands p (marks_numbered last m).0 (marks_numbered last c).0
  pub last_id : (marks_numbered last c).1 ≡ (marks_numbered last m).1

async_numbered : (n last : ℕ) (m : Selection) → Stands (Async n) m m → MarksNumbered (Async n) last m m
async_numbered n last (AtAsync zero args queue held) h = record {
  stands = (refl, refl, refl, refl);
  last_id =
      refl;
}
async_numbered n last (AtAsync (suc id) args queue held) h =
    record { stands = (refl, refl, refl, refl); last_id = refl }
async_numbered n last _ h = absurd h

marks_stand : (p : Statement) (last : ℕ) (m c : Selection) → Stands p m c → MarksNumbered p last m c
marks_stand Pause last AtPause AtPause h = record { stands = tt; last_id = refl }
marks_stand (Async n) last (AtAsync id args queue held) (AtAsync id' args' queue' held') h =
    subst (λ c. MarksNumbered (Async n) last (AtAsync id args queue held) c)
    (λ i. AtAsync (h.0 i) (h.1 i) (h.2 i) (h.3 i))
    (async_numbered n last (AtAsync id args queue held) (refl, refl, refl, refl))
marks_stand (If e p q) last (First m) (First c) h =
    let x = marks_stand p last m c h in record { stands = x.stands; last_id = x.last_id }
marks_stand (If e p q) last (Second m) (Second c) h =
    let x = marks_stand q last m c h in record { stands = x.stands; last_id = x.last_id }
marks_stand (Suspend e p) last (Inside m) (Inside c) h =
    let x = marks_stand p last m c h in record { stands = x.stands; last_id = x.last_id }
marks_stand (Seq p q) last (First m) (First c) h =
    let x = marks_stand p last m c h in record { stands = x.stands; last_id = x.last_id }
marks_stand (Seq p q) last (Second m) (Second c) h =
    let x = marks_stand q last m c h in record { stands = x.stands; last_id = x.last_id }
marks_stand (Par p q) last (First m) (First c) h =
    let x = marks_stand p last m c h in record { stands = x.stands; last_id = x.last_id }
marks_stand (Par p q) last (Second m) (Second c) h =
    let x = marks_stand q last m c h in record { stands = x.stands; last_id = x.last_id }
marks_stand (Par p q) last (Both m n) (Both c d) h =
    let x = marks_stand p last m c h.0 in
    let y = marks_stand q (marks_numbered last m).1 n d h.1 in
    record {
      stands = (
        x.stands,
        subst (λ l. Stands q (marks_numbered (marks_numbered last m).1 n).0 (marks_numbered l d).0)
            (sym x.last_id) y.stands,
      );
      last_id = ap (λ l. (marks_numbered l d).1) x.last_id ∙ y.last_id;
    }
marks_stand (Loop p) last (Inside m) (Inside (First c)) h =
    let x = marks_stand p last m c h in record { stands = x.stands; last_id = x.last_id }
marks_stand (Loop p) last (Inside m) (Inside (Second c)) h =
    let x = marks_stand p last m c h in record { stands = x.stands; last_id = x.last_id }
marks_stand (Trap p) last (Inside m) (Inside c) h =
    let x = marks_stand p last m c h in record { stands = x.stands; last_id = x.last_id }
marks_stand (Local s p) last (Scope m b v) (Scope c b' v') h =
    let x = marks_stand p last m c h.0 in record { stands = (x.stands, h.1, h.2); last_id = x.last_id }
marks_stand _ last m c h = absurd h

pub numbered_stand : (p : Statement) (last : ℕ) (m c : Selection) → Stands p m c
    → Stands p (marks_numbered last m).0 (marks_numbered last c).0
numbered_stand p last m c h = (marks_stand p last m c h).stands
