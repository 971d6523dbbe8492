-- A text has one list of bodies, as far as hooks go.
use Rattle.std.proofs.Common.{◌≡◌, ℕ, zero, suc, Option, Some, None, List, [], ◌∷◌, map, slice_get, All, refl, sym, ◌∙◌, ap, subst}
use Rattle.std.proofs.lemmas.Option.{slice_get_within, get_or_from_slice_get}
use Rattle.std.proofs.lemmas.List.Elements.{All-get_or}
use Rattle.host_expr.specs.declared.expr.Expr.{Expr}
use Rattle.host_expr.specs.Expression.{optional_expression}
use Rattle.hh_term.specs.declared.program.Program.{Program}
use Rattle.hh_term.specs.declared.program.BodyDecl.{BodyDecl}
use Rattle.hh_term.specs.Kernel.{Kernel, Body}
use Rattle.hh_term.specs.Views.{body_of}
use Rattle.hh_term.specs.ProgramView.{kernel_of}
use Rattle.host_hooks.specs.Promise.{Promise}
use Rattle.host_hooks.specs.Allowed.{IsCovered, HasHook}
use Rattle.hiphop_main.specs.Play.{bodies_of}

no_expression : (e : Expr ℕ) → optional_expression (Some e) ≡ optional_expression None → ⊥
no_expression e h = cc

same_hook : (hooks : List Promise) (a b : BodyDecl) → body_of a ≡ body_of b → (e f : Option (Expr ℕ)) → a.expr ≡ e → b.expr ≡ f
    → HasHook hooks a e → HasHook hooks b f
same_hook hooks a b same (Some e) (Some f) own other h = tt
same_hook hooks a b same (Some e) None own other h =
    absurd (no_expression e (ap optional_expression (sym own) ∙ ap (λ (x : Body). x.expr) same ∙ ap optional_expression other))
same_hook hooks a b same None (Some f) own other h = tt
same_hook hooks a b same None None own other (p, h) = (
  p,
  record {
    stored = h.stored;
    name = h.name ∙ ap (λ (x : Body). x.name) same;
    params = h.params ∙ ap (λ (x : Body). x.params) same;
    answer = h.answer ∙ ap (λ (x : Body). x.answer) same;
  },
)

pub same_covered : (hooks : List Promise) (a b : BodyDecl) → body_of a ≡ body_of b → IsCovered hooks a → IsCovered hooks b
same_covered hooks a b same h = same_hook hooks a b same a.expr b.expr refl refl h

-- bodies of one program
pub program_bodies : (p q : Program) → kernel_of p ≡ kernel_of q → map body_of (bodies_of p) ≡ map body_of (bodies_of q)
program_bodies p q same = ap (λ (K : Kernel). K.bodies) same

pub at_same : (ds bs : List BodyDecl) (k : ℕ) (b : BodyDecl) → map body_of ds ≡ map body_of bs → slice_get bs k ≡ Some b
    → (a : BodyDecl) × (slice_get ds k ≡ Some a) × (body_of a ≡ body_of b)
at_same [] [] k b same at = absurd (let no : ⊥ = cc in no)
at_same [] (y ∷ ys) k b same at = absurd (let no : ⊥ = cc in no)
at_same (x ∷ xs) [] k b same at = absurd (let no : ⊥ = cc in no)
at_same (x ∷ xs) (y ∷ ys) zero b same at = (x, refl, let here : body_of x ≡ body_of y = cc in let own : y ≡ b = cc in here ∙ ap body_of own)
at_same (x ∷ xs) (y ∷ ys) (suc k) b same at = at_same xs ys k b (let rest : map body_of xs ≡ map body_of ys = cc in rest) at

pub at_place : {X : Type 0} (P : X → Type 0) (xs : List X) (k : ℕ) (x : X) → All P xs → slice_get xs k ≡ Some x → P x
at_place P xs k x all at =
    subst P (get_or_from_slice_get xs k x x at) (All-get_or P xs k x (slice_get_within xs k x at) all)

pub covered_all : (hooks : List Promise) (p q : Program) → kernel_of p ≡ kernel_of q → All (IsCovered hooks) (bodies_of p)
    → (k : ℕ) (b : BodyDecl) → slice_get (bodies_of q) k ≡ Some b → IsCovered hooks b
covered_all hooks p q same all k b at =
    let own = at_same (bodies_of p) (bodies_of q) k b (program_bodies p q same) at in
    same_covered hooks own.0 b own.2 (at_place (IsCovered hooks) (bodies_of p) k own.0 all own.1)
