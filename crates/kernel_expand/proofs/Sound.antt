-- Numbered statements whose kinds fit, whose exits have their traps and whose signals are in scope: by
-- statements without parts, round one part, and of two parts.
use Rattle.std.proofs.Common.{◌≡◌, ℕ, zero, suc, List, [], ◌∷◌, ◌++◌, length}
use Rattle.std.proofs.Common.{Some, refl}
use Rattle.std.specs.Prelude.{slice_get}
use Rattle.std.specs.List.{AllByRecursion}
use Rattle.hh_term.specs.Kernel.{Kernel, Body}
use Rattle.hh_term.specs.Scopes.{ExitsFit, UsesInScope}
use Rattle.hh_term.specs.Fits.{StatementFits, SignalFits, SiteFits}
use Rattle.hh_term.specs.Placed.{Placed}
use Rattle.hh_term.specs.Placed.{unplaced}
use Rattle.kernel_expand.specs.Numbering.{Around, Numbered}
use Rattle.kernel_expand.proofs.Standing.{Kept, kept_same, kept_on, Whole, whole_before}

module _ (bodies : List Body) (interface : ℕ) where
  abbrev pub WholeIn : Numbered → Kernel → Type 0
  WholeIn = Whole bodies interface

  -- a numbered statement, behind what was numbered before it
  pub record Sound (a : Around) (n : Numbered) (locals : List ℕ) (t : Placed) (m : Numbered) : Type 0 where
    pub kept : Kept n m
    pub exits : ExitsFit (length a.traps) (unplaced t)
    pub fits : (K : Kernel) → WholeIn m K → StatementFits K (unplaced t)
    pub uses : (K : Kernel) → WholeIn m K → UsesInScope K locals (unplaced t)
    pub sites : (K : Kernel) → WholeIn m K → AllByRecursion (SiteFits K) n.sites
        → AllByRecursion (SiteFits K) m.sites
    pub signals : AllByRecursion SignalFits n.signals → AllByRecursion SignalFits m.signals

  pub alone : (a : Around) (n : Numbered) (locals : List ℕ) (t : Placed)
      → ExitsFit (length a.traps) (unplaced t) → ((K : Kernel) → WholeIn n K → StatementFits K (unplaced t))
      → ((K : Kernel) → WholeIn n K → UsesInScope K locals (unplaced t)) → Sound a n locals t n
  alone a n locals t e f u =
      record {
        kept = kept_same n;
        exits = e;
        fits = f;
        uses = u;
        sites = λ K w h. h;
        signals = λ h. h;
      }

  -- the inner statement stands in a trap, or as the one round it
  pub around : (a b : Around) (n m : Numbered) (locals : List ℕ) (p t : Placed)
      → (ExitsFit (length b.traps) (unplaced p) → ExitsFit (length a.traps) (unplaced t))
      → ((K : Kernel) → WholeIn m K → StatementFits K (unplaced p) → StatementFits K (unplaced t))
      → ((K : Kernel) → WholeIn m K → UsesInScope K locals (unplaced p) → UsesInScope K locals (unplaced t))
      → Sound b n locals p m → Sound a n locals t m
  around a b n m locals p t e f u s =
      record {
        kept = s.kept;
        exits = e s.exits;
        fits = λ K w. f K w (s.fits K w);
        uses = λ K w. u K w (s.uses K w);
        sites = s.sites;
        signals = s.signals;
      }

  pub both : (a : Around) (n m o : Numbered) (locals : List ℕ) (p q t : Placed)
      → (ExitsFit (length a.traps) (unplaced p) → ExitsFit (length a.traps) (unplaced q)
      → ExitsFit (length a.traps) (unplaced t))
      → ((K : Kernel) → WholeIn o K → StatementFits K (unplaced p) → StatementFits K (unplaced q)
      → StatementFits K (unplaced t))
      → ((K : Kernel) → WholeIn o K → UsesInScope K locals (unplaced p) → UsesInScope K locals (unplaced q)
      → UsesInScope K locals (unplaced t))
      → Sound a n locals p m → Sound a m locals q o → Sound a n locals t o
  both a n m o locals p q t e f u s r =
      record {
        kept = kept_on n m o s.kept r.kept;
        exits = e s.exits r.exits;
        fits = λ K w. f K w (s.fits K (whole_before bodies interface m o K r.kept w)) (r.fits K w);
        uses = λ K w. u K w (s.uses K (whole_before bodies interface m o K r.kept w)) (r.uses K w);
        sites = λ K w h. r.sites K w (s.sites K (whole_before bodies interface m o K r.kept w) h);
        signals = λ h. r.signals (s.signals h);
      }

  -- ---- a signal more

  there : {A : Type 0} (xs : List A) (x : A) → slice_get (xs ++ x ∷ []) (length xs) ≡ Some x
  there [] x = refl
  there (y ∷ xs) x = there xs x

  still : {A : Type 0} (xs ys : List A) (i : ℕ) (x : A) → slice_get xs i ≡ Some x
      → slice_get (xs ++ ys) i ≡ Some x
  still [] ys i x e = absurd (let no : ⊥ = cc in no)
  still (z ∷ xs) ys zero x e = e
  still (z ∷ xs) ys (suc i) x e = still xs ys i x e
