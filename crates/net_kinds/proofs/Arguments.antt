-- Arguments, one parameter after the other.
use Rattle.std.proofs.Common.{◌≡◌, ◌<◌, ◌+◌, ◌∷◌, [], ℕ, List, true, false, ◌&&◌, length, get_or, drop, sym, ap, ◌∙◌, refl}
use Rattle.std.proofs.lemmas.List.{at_drop_more}
use Rattle.hh_base.specs.declared.value.Kind.{Kind}
use Rattle.host_expr.specs.declared.expr.Expr.{Expr}
use Rattle.net_list.specs.Kinds.{arguments_fit}
use Rattle.net_kinds.specs.LinesFit.{first_fits}

module _ (kinds params : List Kind) where
  next : (i : ℕ) (p : Kind) (args : List (Expr ℕ)) → i < length params → p ≡ get_or params i p
      → arguments_fit kinds (drop i params) args ≡ arguments_fit kinds (p ∷ drop (i + 1) params) args
  next i p args l read =
      at_drop_more (λ ps. arguments_fit kinds ps args) params i p l
      ∙ ap (λ q. arguments_fit kinds (q ∷ drop (i + 1) params) args) (sym read)

  first_fails : (p : Kind) (later : List Kind) (args : List (Expr ℕ)) → first_fits kinds p args ≡ false
      → arguments_fit kinds (p ∷ later) args ≡ false
  first_fails p later [] bad = refl
  first_fails p later (arg ∷ others) bad = ap (λ b. b && arguments_fit kinds later others) bad

  first_holds : (p : Kind) (later : List Kind) (args : List (Expr ℕ)) → first_fits kinds p args ≡ true
      → arguments_fit kinds (p ∷ later) args ≡ arguments_fit kinds later (drop 1 args)
  first_holds p later [] good = cc
  first_holds p later (arg ∷ others) good = ap (λ b. b && arguments_fit kinds later others) good

  pub stops : (i : ℕ) (p : Kind) (args : List (Expr ℕ)) → i < length params → p ≡ get_or params i p
      → first_fits kinds p args ≡ false → false ≡ arguments_fit kinds (drop i params) args
  stops i p args l read bad = sym (next i p args l read ∙ first_fails p (drop (i + 1) params) args bad)

  pub goes_on : (i : ℕ) (p : Kind) (args : List (Expr ℕ)) → i < length params → p ≡ get_or params i p
      → first_fits kinds p args ≡ true
      → arguments_fit kinds (drop i params) args ≡ arguments_fit kinds (drop (i + 1) params) (drop 1 args)
  goes_on i p args l read good = next i p args l read ∙ first_holds p (drop (i + 1) params) args good
