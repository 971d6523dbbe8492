-- What the copy of a statement keeps whatever the declarations: its locals and sites in order, its codes, exits, height and traps.
use Rattle.std.proofs.Common.{◌≡◌, ℕ, zero, suc, ◌+◌, ◌<◌, max, Bool, true, false, List, ◌∷◌, ◌++◌, length}
use Rattle.std.proofs.Common.{refl, sym, ap, ◌∙◌, arith, length-append}
use Rattle.std.specs.Prelude.{◌||◌, ◌&&◌}
use Rattle.std.specs.List.{AllByRecursion, range_with_len}
use mathlib.Core.Path.{fun_ext}
use Rattle.hh_term.specs.Statement.{Statement, Nothing, Pause, Emit, If, Suspend, Seq, Par, Loop, Trap}
use Rattle.hh_term.specs.Statement.{Exit, Local, Async}
use Rattle.hh_term.specs.Codes.{CodeSet, either, without_end, in_turn, greater_of, lowered, static_codes}
use Rattle.hh_term.specs.Scopes.{ExitsFit, LoopsWait, locals_of, sites_of}
use Rattle.hh_term.specs.Sizes.{height_of, traps_round}
use Rattle.loop_copy.specs.Copies.{copy, copied_locals, copied_asyncs, local_count, async_count, with_number}
use Rattle.loop_copy.specs.IsCopied.{LoopsAreDoubled, nodes_high}
use Rattle.loop_copy.specs.Within.{LiesWithin}
use Rattle.loop_copy.proofs.Lists.{both_all, all_both, range_append}

-- ---- numbers in order

in_turn_ranges : (n : ℕ) (us vs xs ys : List ℕ) → us ≡ range_with_len n (length xs) → vs ≡ range_with_len (n + length xs) (length ys)
    → us ++ vs ≡ range_with_len n (length (xs ++ ys))
in_turn_ranges n us vs xs ys e f =
    (λ i. e i ++ f i) ∙ range_append n (length xs) (length ys) ∙ ap (range_with_len n) (sym (length-append xs ys))

pub locals_in_order : (f : ℕ → ℕ) (n m : ℕ) (p : Statement) → locals_of (copy f n m p) ≡ range_with_len n (local_count p)
locals_in_order f n m Nothing = refl
locals_in_order f n m Pause = refl
locals_in_order f n m (Emit s e) = refl
locals_in_order f n m (If e p q) = in_turn_ranges n _ _ (copied_locals p) (copied_locals q) (locals_in_order f n m p)
    (locals_in_order f (n + local_count p) (m + async_count p) q)
locals_in_order f n m (Suspend e p) = locals_in_order f n m p
locals_in_order f n m (Seq p q) = in_turn_ranges n _ _ (copied_locals p) (copied_locals q) (locals_in_order f n m p)
    (locals_in_order f (n + local_count p) (m + async_count p) q)
locals_in_order f n m (Par p q) = in_turn_ranges n _ _ (copied_locals p) (copied_locals q) (locals_in_order f n m p)
    (locals_in_order f (n + local_count p) (m + async_count p) q)
locals_in_order f n m (Loop p) = in_turn_ranges n _ _ (copied_locals p) (copied_locals p) (locals_in_order f n m p)
    (locals_in_order f (n + local_count p) (m + async_count p) p)
locals_in_order f n m (Trap p) = locals_in_order f n m p
locals_in_order f n m (Exit k) = refl
locals_in_order f n m (Local s p) =
    let next : suc n ≡ n + 1 = omega arith in
    ap (λ ss. n ∷ ss) (locals_in_order (with_number s n f) (suc n) m p)
    ∙ ap (λ k. n ∷ range_with_len k (local_count p)) next
locals_in_order f n m (Async a) = refl

pub sites_in_order : (f : ℕ → ℕ) (n m : ℕ) (p : Statement) → sites_of (copy f n m p) ≡ range_with_len m (async_count p)
sites_in_order f n m Nothing = refl
sites_in_order f n m Pause = refl
sites_in_order f n m (Emit s e) = refl
sites_in_order f n m (If e p q) = in_turn_ranges m _ _ (copied_asyncs p) (copied_asyncs q) (sites_in_order f n m p)
    (sites_in_order f (n + local_count p) (m + async_count p) q)
sites_in_order f n m (Suspend e p) = sites_in_order f n m p
sites_in_order f n m (Seq p q) = in_turn_ranges m _ _ (copied_asyncs p) (copied_asyncs q) (sites_in_order f n m p)
    (sites_in_order f (n + local_count p) (m + async_count p) q)
sites_in_order f n m (Par p q) = in_turn_ranges m _ _ (copied_asyncs p) (copied_asyncs q) (sites_in_order f n m p)
    (sites_in_order f (n + local_count p) (m + async_count p) q)
sites_in_order f n m (Loop p) = in_turn_ranges m _ _ (copied_asyncs p) (copied_asyncs p) (sites_in_order f n m p)
    (sites_in_order f (n + local_count p) (m + async_count p) p)
sites_in_order f n m (Trap p) = sites_in_order f n m p
sites_in_order f n m (Exit k) = refl
sites_in_order f n m (Local s p) = sites_in_order (with_number s n f) (suc n) m p
sites_in_order f n m (Async a) = refl

-- ---- exits, height and traps

pub exits_fit : (l : ℕ) (f : ℕ → ℕ) (n m : ℕ) (p : Statement) → ExitsFit l p → ExitsFit l (copy f n m p)
exits_fit l f n m Nothing h = tt
exits_fit l f n m Pause h = tt
exits_fit l f n m (Emit s e) h = tt
exits_fit l f n m (If e p q) h = (exits_fit l f n m p h.0, exits_fit l f (n + local_count p) (m + async_count p) q h.1)
exits_fit l f n m (Suspend e p) h = exits_fit l f n m p h
exits_fit l f n m (Seq p q) h = (exits_fit l f n m p h.0, exits_fit l f (n + local_count p) (m + async_count p) q h.1)
exits_fit l f n m (Par p q) h = (exits_fit l f n m p h.0, exits_fit l f (n + local_count p) (m + async_count p) q h.1)
exits_fit l f n m (Loop p) h = (exits_fit l f n m p h, exits_fit l f (n + local_count p) (m + async_count p) p h)
exits_fit l f n m (Trap p) h = exits_fit (suc l) f n m p h
exits_fit l f n m (Exit k) h = h
exits_fit l f n m (Local s p) h = exits_fit l (with_number s n f) (suc n) m p h
exits_fit l f n m (Async a) h = tt

same_max : (h : ℕ) → 1 + (1 + max h h) ≡ 2 + h
same_max h = omega arith

pub same_height : (f : ℕ → ℕ) (n m : ℕ) (p : Statement) → nodes_high (copy f n m p) ≡ height_of p
same_height f n m Nothing = refl
same_height f n m Pause = refl
same_height f n m (Emit s e) = refl
same_height f n m (If e p q) = λ i. 1 + max (same_height f n m p i) (same_height f (n + local_count p) (m + async_count p) q i)
same_height f n m (Suspend e p) = ap (λ h. 1 + h) (same_height f n m p)
same_height f n m (Seq p q) = λ i. 1 + max (same_height f n m p i) (same_height f (n + local_count p) (m + async_count p) q i)
same_height f n m (Par p q) = λ i. 1 + max (same_height f n m p i) (same_height f (n + local_count p) (m + async_count p) q i)
same_height f n m (Loop p) =
    (λ i. 1 + (1 + max (same_height f n m p i) (same_height f (n + local_count p) (m + async_count p) p i)))
    ∙ same_max (height_of p)
same_height f n m (Trap p) = ap (λ h. 1 + h) (same_height f n m p)
same_height f n m (Exit k) = refl
same_height f n m (Local s p) = ap (λ h. 1 + h) (same_height (with_number s n f) (suc n) m p)
same_height f n m (Async a) = refl

pub same_traps : (f : ℕ → ℕ) (n m : ℕ) (p : Statement) → traps_round (copy f n m p) ≡ traps_round p
same_traps f n m Nothing = refl
same_traps f n m Pause = refl
same_traps f n m (Emit s e) = refl
same_traps f n m (If e p q) = λ i. max (same_traps f n m p i) (same_traps f (n + local_count p) (m + async_count p) q i)
same_traps f n m (Suspend e p) = same_traps f n m p
same_traps f n m (Seq p q) = λ i. max (same_traps f n m p i) (same_traps f (n + local_count p) (m + async_count p) q i)
same_traps f n m (Par p q) = λ i. max (same_traps f n m p i) (same_traps f (n + local_count p) (m + async_count p) q i)
same_traps f n m (Loop p) =
    (λ i. max (same_traps f n m p i) (same_traps f (n + local_count p) (m + async_count p) p i))
    ∙ (let one : max (traps_round p) (traps_round p) ≡ traps_round p = omega arith in one)
same_traps f n m (Trap p) = ap (λ h. 1 + h) (same_traps f n m p)
same_traps f n m (Exit k) = refl
same_traps f n m (Local s p) = same_traps (with_number s n f) (suc n) m p
same_traps f n m (Async a) = refl

-- ---- codes

doubled_codes : (C : CodeSet) → C 0 ≡ false → (c : ℕ) → without_end (in_turn C C) c ≡ without_end C c
doubled_codes C h zero = refl
doubled_codes C h (suc c) = by_end (C 0) (C (suc c)) h
  where
    by_end : (a b : Bool) → a ≡ false → (b || (a && b)) ≡ b
    by_end false true h = refl
    by_end false false h = refl
    by_end true b h = absurd (let no : ⊥ = cc in no)

pub same_codes : (f : ℕ → ℕ) (n m : ℕ) (p : Statement) → LoopsWait p → static_codes (copy f n m p) ≡ static_codes p
same_codes f n m Nothing h = refl
same_codes f n m Pause h = refl
same_codes f n m (Emit s e) h = refl
same_codes f n m (If e p q) h =
    λ i. either (same_codes f n m p h.0 i) (same_codes f (n + local_count p) (m + async_count p) q h.1 i)
same_codes f n m (Suspend e p) h = same_codes f n m p h
same_codes f n m (Seq p q) h =
    λ i. in_turn (same_codes f n m p h.0 i) (same_codes f (n + local_count p) (m + async_count p) q h.1 i)
same_codes f n m (Par p q) h =
    λ i. greater_of (same_codes f n m p h.0 i) (same_codes f (n + local_count p) (m + async_count p) q h.1 i)
same_codes f n m (Loop p) h =
    (λ i. without_end (in_turn (same_codes f n m p h.1 i) (same_codes f (n + local_count p) (m + async_count p) p h.1 i)))
    ∙ fun_ext (doubled_codes (static_codes p) h.0)
same_codes f n m (Trap p) h = ap lowered (same_codes f n m p h)
same_codes f n m (Exit k) h = refl
same_codes f n m (Local s p) h = same_codes (with_number s n f) (suc n) m p h
same_codes f n m (Async a) h = refl

no_end_both : (C D : CodeSet) → C 0 ≡ false → in_turn C D 0 ≡ false
no_end_both C D h = by_end (C 0) (D 0) h
  where
    by_end : (a b : Bool) → a ≡ false → (false || (a && b)) ≡ false
    by_end false b h = refl
    by_end true b h = absurd (let no : ⊥ = cc in no)

-- the halves of a loop's body do not end where they start
pub half_waits : (f : ℕ → ℕ) (n m : ℕ) (p : Statement) → static_codes p 0 ≡ false → LoopsWait p
    → static_codes (copy f n m p) 0 ≡ false
half_waits f n m p h w = ap (λ (C : CodeSet). C 0) (same_codes f n m p w) ∙ h

pub loops_wait : (f : ℕ → ℕ) (n m : ℕ) (p : Statement) → LoopsWait p → LoopsWait (copy f n m p)
loops_wait f n m Nothing h = tt
loops_wait f n m Pause h = tt
loops_wait f n m (Emit s e) h = tt
loops_wait f n m (If e p q) h = (loops_wait f n m p h.0, loops_wait f (n + local_count p) (m + async_count p) q h.1)
loops_wait f n m (Suspend e p) h = loops_wait f n m p h
loops_wait f n m (Seq p q) h = (loops_wait f n m p h.0, loops_wait f (n + local_count p) (m + async_count p) q h.1)
loops_wait f n m (Par p q) h = (loops_wait f n m p h.0, loops_wait f (n + local_count p) (m + async_count p) q h.1)
loops_wait f n m (Loop p) h = (
  no_end_both (static_codes (copy f n m p)) (static_codes (copy f (n + local_count p) (m + async_count p) p))
      (half_waits f n m p h.0 h.1),
  (loops_wait f n m p h.1, loops_wait f (n + local_count p) (m + async_count p) p h.1),
)
loops_wait f n m (Trap p) h = loops_wait f n m p h
loops_wait f n m (Exit k) h = tt
loops_wait f n m (Local s p) h = loops_wait (with_number s n f) (suc n) m p h
loops_wait f n m (Async a) h = tt

pub loops_are_doubled : (f : ℕ → ℕ) (n m : ℕ) (p : Statement) → LoopsWait p → LoopsAreDoubled (copy f n m p)
loops_are_doubled f n m Nothing h = tt
loops_are_doubled f n m Pause h = tt
loops_are_doubled f n m (Emit s e) h = tt
loops_are_doubled f n m (If e p q) h =
    (loops_are_doubled f n m p h.0, loops_are_doubled f (n + local_count p) (m + async_count p) q h.1)
loops_are_doubled f n m (Suspend e p) h = loops_are_doubled f n m p h
loops_are_doubled f n m (Seq p q) h =
    (loops_are_doubled f n m p h.0, loops_are_doubled f (n + local_count p) (m + async_count p) q h.1)
loops_are_doubled f n m (Par p q) h =
    (loops_are_doubled f n m p h.0, loops_are_doubled f (n + local_count p) (m + async_count p) q h.1)
loops_are_doubled f n m (Loop p) h = (
  half_waits f n m p h.0 h.1,
  half_waits f (n + local_count p) (m + async_count p) p h.0 h.1,
  loops_are_doubled f n m p h.1,
  loops_are_doubled f (n + local_count p) (m + async_count p) p h.1,
)
loops_are_doubled f n m (Trap p) h = loops_are_doubled f n m p h
loops_are_doubled f n m (Exit k) h = tt
loops_are_doubled f n m (Local s p) h = loops_are_doubled (with_number s n f) (suc n) m p h
loops_are_doubled f n m (Async a) h = tt

-- ---- what is copied is of the program

module _ (P : ℕ → Type 0) where
  pub copied_are : (p : Statement) → AllByRecursion P (locals_of p) → AllByRecursion P (copied_locals p)
  copied_are Nothing h = tt
  copied_are Pause h = tt
  copied_are (Emit s e) h = tt
  copied_are (If e p q) h = let s = both_all P (locals_of p) (locals_of q) h in
      all_both P (copied_locals p) (copied_locals q) (copied_are p s.0) (copied_are q s.1)
  copied_are (Suspend e p) h = copied_are p h
  copied_are (Seq p q) h = let s = both_all P (locals_of p) (locals_of q) h in
      all_both P (copied_locals p) (copied_locals q) (copied_are p s.0) (copied_are q s.1)
  copied_are (Par p q) h = let s = both_all P (locals_of p) (locals_of q) h in
      all_both P (copied_locals p) (copied_locals q) (copied_are p s.0) (copied_are q s.1)
  copied_are (Loop p) h = all_both P (copied_locals p) (copied_locals p) (copied_are p h) (copied_are p h)
  copied_are (Trap p) h = copied_are p h
  copied_are (Exit k) h = tt
  copied_are (Local s p) h = (h.0, copied_are p h.1)
  copied_are (Async a) h = tt

module _ (signals sites : ℕ) where
  pub lies_within : (p : Statement) → AllByRecursion (λ s. s < signals) (locals_of p) → AllByRecursion (λ a. a < sites) (sites_of p)
      → LiesWithin signals sites p
  lies_within Nothing h k = tt
  lies_within Pause h k = tt
  lies_within (Emit s e) h k = tt
  lies_within (If e p q) h k =
      let s = both_all (λ s. s < signals) (locals_of p) (locals_of q) h in
      let t = both_all (λ a. a < sites) (sites_of p) (sites_of q) k in
      (lies_within p s.0 t.0, lies_within q s.1 t.1)
  lies_within (Suspend e p) h k = lies_within p h k
  lies_within (Seq p q) h k =
      let s = both_all (λ s. s < signals) (locals_of p) (locals_of q) h in
      let t = both_all (λ a. a < sites) (sites_of p) (sites_of q) k in
      (lies_within p s.0 t.0, lies_within q s.1 t.1)
  lies_within (Par p q) h k =
      let s = both_all (λ s. s < signals) (locals_of p) (locals_of q) h in
      let t = both_all (λ a. a < sites) (sites_of p) (sites_of q) k in
      (lies_within p s.0 t.0, lies_within q s.1 t.1)
  lies_within (Loop p) h k = lies_within p h k
  lies_within (Trap p) h k = lies_within p h k
  lies_within (Exit l) h k = tt
  lies_within (Local s p) h k = (h.0, lies_within p h.1 k)
  lies_within (Async a) h k = k.0
