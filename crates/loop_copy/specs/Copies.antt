-- A program in which each loop's body stands twice, the second time with locals and async sites of its own.
-- (After Berry's cure for reincarnation by doubling; the numbers are this project's own.)
use Rattle.std.specs.Prelude.{ℕ, suc, ◌+◌, cond, ◌==◌, List, [], ◌∷◌, ◌++◌, length, map, flat_map}
use Rattle.std.specs.Prelude.{option_map, option_to_list, slice_get, slice_index_or}
use Rattle.hh_term.specs.Statement.{Statement, Nothing, Pause, Emit, If, Suspend, Seq, Par, Loop, Trap}
use Rattle.hh_term.specs.Statement.{Exit, Local, Async}
use Rattle.hh_term.specs.Kernel.{Kernel, AsyncSite}
use Rattle.hh_term.specs.IsProgram.{interface_of}
use Rattle.loop_copy.specs.Renaming.{renamed, renamed_site}

-- the locals of the copied term from left to right, each as that of the program which it copies
abbrev pub copied_locals : Statement → List ℕ
copied_locals (If e p q) = copied_locals p ++ copied_locals q
copied_locals (Suspend e p) = copied_locals p
copied_locals (Seq p q) = copied_locals p ++ copied_locals q
copied_locals (Par p q) = copied_locals p ++ copied_locals q
copied_locals (Loop p) = copied_locals p ++ copied_locals p
copied_locals (Trap p) = copied_locals p
copied_locals (Local s p) = s ∷ copied_locals p
copied_locals _ = []

-- and its async sites
abbrev pub copied_asyncs : Statement → List ℕ
copied_asyncs (If e p q) = copied_asyncs p ++ copied_asyncs q
copied_asyncs (Suspend e p) = copied_asyncs p
copied_asyncs (Seq p q) = copied_asyncs p ++ copied_asyncs q
copied_asyncs (Par p q) = copied_asyncs p ++ copied_asyncs q
copied_asyncs (Loop p) = copied_asyncs p ++ copied_asyncs p
copied_asyncs (Trap p) = copied_asyncs p
copied_asyncs (Local s p) = copied_asyncs p
copied_asyncs (Async a) = a ∷ []
copied_asyncs _ = []

abbrev pub local_count : Statement → ℕ
local_count p = length (copied_locals p)

abbrev pub async_count : Statement → ℕ
async_count p = length (copied_asyncs p)

-- inside its scope local s has the number n
abbrev pub with_number : ℕ → ℕ → (ℕ → ℕ) → ℕ → ℕ
with_number s n f t = cond (t == s) n (f t)

-- The copy of a statement. A signal s that is in scope has the number f s, and the locals and sites in the
-- copy have the numbers from n and from m on, from left to right.
abbrev pub copy : (ℕ → ℕ) → ℕ → ℕ → Statement → Statement
copy f n m Nothing = Nothing
copy f n m Pause = Pause
copy f n m (Emit s e) = Emit (f s) (option_map (renamed f) e)
copy f n m (If e p q) =
    If (renamed f e) (copy f n m p) (copy f (n + local_count p) (m + async_count p) q)
copy f n m (Suspend e p) = Suspend (renamed f e) (copy f n m p)
copy f n m (Seq p q) = Seq (copy f n m p) (copy f (n + local_count p) (m + async_count p) q)
copy f n m (Par p q) = Par (copy f n m p) (copy f (n + local_count p) (m + async_count p) q)
copy f n m (Loop p) = Loop (Seq (copy f n m p) (copy f (n + local_count p) (m + async_count p) p))
copy f n m (Trap p) = Trap (copy f n m p)
copy f n m (Exit k) = Exit k
copy f n m (Local s p) = Local n (copy (with_number s n f) (suc n) m p)
copy f n m (Async a) = Async m

-- what its async sites run, from left to right: as those that they copy, with the signals in scope there
abbrev pub copied_sites : List AsyncSite → (ℕ → ℕ) → ℕ → Statement → List AsyncSite
copied_sites sites f n (If e p q) = copied_sites sites f n p ++ copied_sites sites f (n + local_count p) q
copied_sites sites f n (Suspend e p) = copied_sites sites f n p
copied_sites sites f n (Seq p q) = copied_sites sites f n p ++ copied_sites sites f (n + local_count p) q
copied_sites sites f n (Par p q) = copied_sites sites f n p ++ copied_sites sites f (n + local_count p) q
copied_sites sites f n (Loop p) = copied_sites sites f n p ++ copied_sites sites f (n + local_count p) p
copied_sites sites f n (Trap p) = copied_sites sites f n p
copied_sites sites f n (Local s p) = copied_sites sites (with_number s n f) (suc n) p
copied_sites sites f n (Async a) = map (renamed_site f) (option_to_list (slice_get sites a))
copied_sites sites f n _ = []

abbrev pub items_at : {A : Type 0} → List A → List ℕ → List A
items_at xs is = flat_map (λ i. option_to_list (slice_get xs i)) is

-- The copied program: the interface and the bodies are the same.
abbrev pub copied_program : Kernel → Kernel
copied_program K =
    record {
      signals = interface_of K ++ items_at K.signals (copied_locals K.statement);
      interface = K.interface;
      bodies = K.bodies;
      sites = copied_sites K.sites (λ s. s) K.interface K.statement;
      statement = copy (λ s. s) K.interface 0 K.statement;
    }

-- the async site of the program which a site of the copied program copies
abbrev pub original_site : Kernel → ℕ → ℕ
original_site K a = slice_index_or (copied_asyncs K.statement) a 0
