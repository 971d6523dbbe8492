-- The marks of the copied term are those that stand for a mark of the term.
use Rattle.std.proofs.Common.{◌≡◌, ℕ, suc, ◌+◌, ◌++◌, refl, sym, ap, ◌∙◌}
use Rattle.hh_term.specs.Statement.{Statement, Pause, If, Suspend, Seq, Par, Loop, Trap}
use Rattle.hh_term.specs.Statement.{Local, Async}
use Rattle.hh_term.specs.Selection.{Selection, AtPause, AtAsync, First, Second, Both, Inside, Scope}
use Rattle.hh_term.specs.Marks.{IsMarkOf, ids_in}
use Rattle.loop_copy.specs.Copies.{copy, local_count, async_count, with_number}
use Rattle.loop_copy.specs.Stands.{Stands}
use Rattle.loop_copy.specs.Lawful.{StandsForOne}

pub term_mark : (p : Statement) (m c : Selection) → Stands p m c → IsMarkOf p m
term_mark Pause AtPause AtPause h = tt
term_mark (Async n) (AtAsync i as' q s) (AtAsync j bs r t) h = tt
term_mark (If e p q) (First m) (First c) h = term_mark p m c h
term_mark (If e p q) (Second m) (Second c) h = term_mark q m c h
term_mark (Suspend e p) (Inside m) (Inside c) h = term_mark p m c h
term_mark (Seq p q) (First m) (First c) h = term_mark p m c h
term_mark (Seq p q) (Second m) (Second c) h = term_mark q m c h
term_mark (Par p q) (First m) (First c) h = term_mark p m c h
term_mark (Par p q) (Second m) (Second c) h = term_mark q m c h
term_mark (Par p q) (Both m n) (Both c d) h = (term_mark p m c h.0, term_mark q n d h.1)
term_mark (Loop p) (Inside m) (Inside (First c)) h = term_mark p m c h
term_mark (Loop p) (Inside m) (Inside (Second c)) h = term_mark p m c h
term_mark (Trap p) (Inside m) (Inside c) h = term_mark p m c h
term_mark (Local s p) (Scope m b v) (Scope c b' v') h = term_mark p m c h.0
term_mark _ m c h = absurd h

pub copied_mark : (f : ℕ → ℕ) (n k : ℕ) (p : Statement) (m c : Selection) → Stands p m c → IsMarkOf (copy f n k p) c
copied_mark f n k Pause AtPause AtPause h = tt
copied_mark f n k (Async a) (AtAsync i as' q s) (AtAsync j bs r t) h = tt
copied_mark f n k (If e p q) (First m) (First c) h = copied_mark f n k p m c h
copied_mark f n k (If e p q) (Second m) (Second c) h = copied_mark f (n + local_count p) (k + async_count p) q m c h
copied_mark f n k (Suspend e p) (Inside m) (Inside c) h = copied_mark f n k p m c h
copied_mark f n k (Seq p q) (First m) (First c) h = copied_mark f n k p m c h
copied_mark f n k (Seq p q) (Second m) (Second c) h = copied_mark f (n + local_count p) (k + async_count p) q m c h
copied_mark f n k (Par p q) (First m) (First c) h = copied_mark f n k p m c h
copied_mark f n k (Par p q) (Second m) (Second c) h = copied_mark f (n + local_count p) (k + async_count p) q m c h
copied_mark f n k (Par p q) (Both m l) (Both c d) h =
    (copied_mark f n k p m c h.0, copied_mark f (n + local_count p) (k + async_count p) q l d h.1)
copied_mark f n k (Loop p) (Inside m) (Inside (First c)) h = copied_mark f n k p m c h
copied_mark f n k (Loop p) (Inside m) (Inside (Second c)) h = copied_mark f (n + local_count p) (k + async_count p) p m c h
copied_mark f n k (Trap p) (Inside m) (Inside c) h = copied_mark f n k p m c h
copied_mark f n k (Local s p) (Scope m b v) (Scope c b' v') h = copied_mark (with_number s n f) (suc n) k p m c h.0
copied_mark f n k _ m c h = absurd h

pub same_ids : (p : Statement) (m c : Selection) → Stands p m c → ids_in m ≡ ids_in c
same_ids Pause AtPause AtPause h = refl
same_ids (Async n) (AtAsync i as' q s) (AtAsync j bs r t) h = ap (λ (x : ℕ). ids_in (AtAsync x as' q s)) h.0
same_ids (If e p q) (First m) (First c) h = same_ids p m c h
same_ids (If e p q) (Second m) (Second c) h = same_ids q m c h
same_ids (Suspend e p) (Inside m) (Inside c) h = same_ids p m c h
same_ids (Seq p q) (First m) (First c) h = same_ids p m c h
same_ids (Seq p q) (Second m) (Second c) h = same_ids q m c h
same_ids (Par p q) (First m) (First c) h = same_ids p m c h
same_ids (Par p q) (Second m) (Second c) h = same_ids q m c h
same_ids (Par p q) (Both m n) (Both c d) h = λ i. same_ids p m c h.0 i ++ same_ids q n d h.1 i
same_ids (Loop p) (Inside m) (Inside (First c)) h = same_ids p m c h
same_ids (Loop p) (Inside m) (Inside (Second c)) h = same_ids p m c h
same_ids (Trap p) (Inside m) (Inside c) h = same_ids p m c h
same_ids (Local s p) (Scope m b v) (Scope c b' v') h = same_ids p m c h.0
same_ids _ m c h = absurd h

pub stands_for : (f : ℕ → ℕ) (n k : ℕ) (p : Statement) (c : Selection) → IsMarkOf (copy f n k p) c → (m : Selection) × Stands p m c
stands_for f n k Pause AtPause h = (AtPause, tt)
stands_for f n k (Async a) (AtAsync i args q s) h = (AtAsync i args q s, (refl, refl, refl, refl))
stands_for f n k (If e p q) (First c) h = let x = stands_for f n k p c h in (First x.0, x.1)
stands_for f n k (If e p q) (Second c) h = let x = stands_for f (n + local_count p) (k + async_count p) q c h in (Second x.0, x.1)
stands_for f n k (Suspend e p) (Inside c) h = let x = stands_for f n k p c h in (Inside x.0, x.1)
stands_for f n k (Seq p q) (First c) h = let x = stands_for f n k p c h in (First x.0, x.1)
stands_for f n k (Seq p q) (Second c) h = let x = stands_for f (n + local_count p) (k + async_count p) q c h in (Second x.0, x.1)
stands_for f n k (Par p q) (First c) h = let x = stands_for f n k p c h in (First x.0, x.1)
stands_for f n k (Par p q) (Second c) h = let x = stands_for f (n + local_count p) (k + async_count p) q c h in (Second x.0, x.1)
stands_for f n k (Par p q) (Both c d) h =
    let x = stands_for f n k p c h.0 in
    let y = stands_for f (n + local_count p) (k + async_count p) q d h.1 in
    (Both x.0 y.0, (x.1, y.1))
stands_for f n k (Loop p) (Inside (First c)) h = let x = stands_for f n k p c h in (Inside x.0, x.1)
stands_for f n k (Loop p) (Inside (Second c)) h =
    let x = stands_for f (n + local_count p) (k + async_count p) p c h in (Inside x.0, x.1)
stands_for f n k (Trap p) (Inside c) h = let x = stands_for f n k p c h in (Inside x.0, x.1)
stands_for f n k (Local s p) (Scope c b v) h =
    let x = stands_for (with_number s n f) (suc n) k p c h in (Scope x.0 b v, (x.1, refl, refl))
stands_for f n k _ c h = absurd h

-- the mark without the choice of halves
original_mark : Statement → Selection → Selection
original_mark (Async n) c = c
original_mark (If e p q) (First c) = First (original_mark p c)
original_mark (If e p q) (Second c) = Second (original_mark q c)
original_mark (Suspend e p) (Inside c) = Inside (original_mark p c)
original_mark (Seq p q) (First c) = First (original_mark p c)
original_mark (Seq p q) (Second c) = Second (original_mark q c)
original_mark (Par p q) (First c) = First (original_mark p c)
original_mark (Par p q) (Second c) = Second (original_mark q c)
original_mark (Par p q) (Both c d) = Both (original_mark p c) (original_mark q d)
original_mark (Loop p) (Inside (First c)) = Inside (original_mark p c)
original_mark (Loop p) (Inside (Second c)) = Inside (original_mark p c)
original_mark (Trap p) (Inside c) = Inside (original_mark p c)
original_mark (Local s p) (Scope c b v) = Scope (original_mark p c) b v
original_mark _ c = c

is_original : (p : Statement) (m c : Selection) → Stands p m c → m ≡ original_mark p c
unfolding original_mark
is_original Pause AtPause AtPause h = refl
is_original (Async n) (AtAsync i as' q s) (AtAsync j bs r t) h = λ x. AtAsync (h.0 x) (h.1 x) (h.2 x) (h.3 x)
is_original (If e p q) (First m) (First c) h = ap First (is_original p m c h)
is_original (If e p q) (Second m) (Second c) h = ap Second (is_original q m c h)
is_original (Suspend e p) (Inside m) (Inside c) h = ap Inside (is_original p m c h)
is_original (Seq p q) (First m) (First c) h = ap First (is_original p m c h)
is_original (Seq p q) (Second m) (Second c) h = ap Second (is_original q m c h)
is_original (Par p q) (First m) (First c) h = ap First (is_original p m c h)
is_original (Par p q) (Second m) (Second c) h = ap Second (is_original q m c h)
is_original (Par p q) (Both m n) (Both c d) h = λ i. Both (is_original p m c h.0 i) (is_original q n d h.1 i)
is_original (Loop p) (Inside m) (Inside (First c)) h = ap Inside (is_original p m c h)
is_original (Loop p) (Inside m) (Inside (Second c)) h = ap Inside (is_original p m c h)
is_original (Trap p) (Inside m) (Inside c) h = ap Inside (is_original p m c h)
is_original (Local s p) (Scope m b v) (Scope c b' v') h = λ i. Scope (is_original p m c h.0 i) (h.1 i) (h.2 i)
is_original _ m c h = absurd h

pub stands_for_one : (f : ℕ → ℕ) (n k : ℕ) (p : Statement) (c : Selection) → IsMarkOf (copy f n k p) c → StandsForOne p c
stands_for_one f n k p c h =
    let x = stands_for f n k p c h in
    record { mark = x.0; stands = x.1; only = λ m s. is_original p m c s ∙ sym (is_original p x.0 c x.1) }
