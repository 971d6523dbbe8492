-- What the walk over a whole program copies is the copied program.
use Rattle.std.proofs.Common.{◌≡◌, ℕ, zero, suc, ◌+◌, ◌≤◌, List, [], ◌++◌, length, map, refl, ap, subst, ◌∙◌, arith}
use Rattle.std.specs.Prelude.{slice_get}
use Rattle.std.specs.List.{range_with_len}
use Rattle.std.proofs.lemmas.List.{length-take-le}
use Rattle.std.proofs.Math.Bridge.{le_prop}
use Rattle.std.proofs.Math.Logic.{∥∥₁_elim, ∥∥₁_prop}
use mathlib.Core.Path.{fun_ext}
use Rattle.hh_term.specs.declared.program.BodyDecl.{BodyDecl}
use Rattle.hh_term.specs.declared.term.Term.{Term}
use Rattle.hh_term.specs.Views.{body_of, site_of, statement_of, kernel_from}
use Rattle.hh_term.specs.Statement.{Statement, Nothing, Pause, Emit, If, Suspend, Seq, Par, Loop, Trap}
use Rattle.hh_term.specs.Statement.{Exit, Local, Async}
use Rattle.hh_term.specs.Kernel.{Kernel}
use Rattle.hh_term.specs.IsProgram.{IsProgram, interface_of}
use Rattle.loop_copy.specs.Renaming.{numbers_in, number_or}
use Rattle.loop_copy.specs.Copies.{copied_program, copied_locals, copied_sites, copy, items_at}
use Rattle.loop_copy.specs.Within.{LiesWithin}
use Rattle.loop_copy.specs.Numbered.{Numbered, Copies, numbered}
use Rattle.loop_copy.specs.IsCopied.{IsCopied}
use Rattle.loop_copy.specs.declared.copier.Copier.{Copier}
use Rattle.loop_copy.proofs.Rules.{within, keeps_rules}

own_from : (a n i s : ℕ) → s ≡ a + i → number_or s (slice_get (range_with_len a n) i) ≡ s
own_from a zero i s e = refl
own_from a (suc n) zero s e = let own : a ≡ s = omega (arith, e) in own
own_from a (suc n) (suc i) s e = own_from (a + 1) n i s (omega (arith, e))

own : (n : ℕ) → numbers_in (range_with_len 0 n) ≡ (λ s. s)
own n = fun_ext (λ s. own_from 0 n s s (omega arith))

pub whole : (K : Kernel) (a b : Numbered) (c : Statement) → a.numbers ≡ range_with_len 0 (length K.signals)
    → a.signals ≡ interface_of K → a.sites ≡ [] → K.interface ≤ length K.signals → Copies K a b K.statement c
    → (let k : Kernel = record K { signals = b.signals; sites = b.sites; statement = c } in k) ≡ copied_program K
whole K a b c ns ss ts l x =
    let f = ap numbers_in ns ∙ own (length K.signals) in
    let n = ap length ss ∙ length-take-le K.interface K.signals l in
    let m = ap length ts in
    λ i. record K {
      signals = (x.adds.signals ∙ ap (λ z. z ++ items_at K.signals (copied_locals K.statement)) ss) i;
      sites = (x.adds.sites ∙ (λ j. ts j ++ copied_sites K.sites (f j) (n j) K.statement)) i;
      statement = (x.statement ∙ (λ j. copy (f j) (n j) (m j) K.statement)) i;
    }

-- ---- what the rules of a program say

within_prop : (signals sites : ℕ) (p : Statement) (x y : LiesWithin signals sites p) → x ≡ y
within_prop signals sites Nothing x y = refl
within_prop signals sites Pause x y = refl
within_prop signals sites (Emit s e) x y = refl
within_prop signals sites (If e p q) x y = λ i. (within_prop signals sites p x.0 y.0 i, within_prop signals sites q x.1 y.1 i)
within_prop signals sites (Suspend e p) x y = within_prop signals sites p x y
within_prop signals sites (Seq p q) x y = λ i. (within_prop signals sites p x.0 y.0 i, within_prop signals sites q x.1 y.1 i)
within_prop signals sites (Par p q) x y = λ i. (within_prop signals sites p x.0 y.0 i, within_prop signals sites q x.1 y.1 i)
within_prop signals sites (Loop p) x y = within_prop signals sites p x y
within_prop signals sites (Trap p) x y = within_prop signals sites p x y
within_prop signals sites (Exit k) x y = refl
within_prop signals sites (Local s p) x y = λ i. (le_prop x.0 y.0 i, within_prop signals sites p x.1 y.1 i)
within_prop signals sites (Async a) x y = le_prop x y

pub rules_within : (K : Kernel) → ∥ IsProgram K ∥₁ → LiesWithin (length K.signals) (length K.sites) K.statement
rules_within K rules = ∥∥₁_elim rules (within_prop (length K.signals) (length K.sites) K.statement) (λ r. within K r)

pub rules_declared : (K : Kernel) → ∥ IsProgram K ∥₁ → K.interface ≤ length K.signals
rules_declared K rules = ∥∥₁_elim rules le_prop (λ r. r.interface_declared)

pub rules_copied : (K : Kernel) → ∥ IsProgram K ∥₁ → ∥ IsCopied (copied_program K) ∥₁
rules_copied K rules = ∥∥₁_elim rules ∥∥₁_prop (λ r. ∣ keeps_rules K r ∣₁)

-- ---- what the code writes

pub is_copy : (K : Kernel) (a b : Copier) (interface : ℕ) (bodies : List BodyDecl) (p : Statement) (term : Term)
    → a.numbers.items ≡ range_with_len 0 (length K.signals) → a.signals.items ≡ interface_of K → a.sites.items ≡ []
    → K.interface ≤ length K.signals → interface ≡ K.interface → map body_of bodies ≡ K.bodies → p ≡ K.statement
    → Copies K (numbered a) (numbered b) p (statement_of term)
    → kernel_from b.signals.items interface bodies b.sites.items term ≡ copied_program K
is_copy K a b interface bodies p term ns ss ts l e f g x =
    (λ i. record {
      signals = b.signals.items;
      interface = e i;
      bodies = f i;
      sites = map site_of b.sites.items;
      statement = statement_of term;
    })
    ∙ whole K (numbered a) (numbered b) (statement_of term) ns ss (ap (map site_of) ts) l
    (subst (λ q. Copies K (numbered a) (numbered b) q (statement_of term)) g x)
