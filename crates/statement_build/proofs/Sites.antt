-- An async site more, whose signals go by their numbers.
use Rattle.std.proofs.Common.{◌≡◌, ℕ, List, [], ◌∷◌, ◌++◌, map, refl, ap, ◌∙◌}
use Rattle.std.proofs.lemmas.List.{map_push}
use Rattle.host_expr.specs.Expression.{expression_of}
use Rattle.module_tree.specs.declared.source.ExprAt.{ExprAt}
use Rattle.hh_term.specs.declared.program.Site.{Site}
use Rattle.hh_term.specs.Kernel.{AsyncSite}
use Rattle.hh_term.specs.Views.{site_of}
use Rattle.kernel_expand.specs.Numbering.{Numbered, in_numbers}

pub site_pushed : (xs ys : List Site) (s : Site) (a : AsyncSite) → ys ≡ xs ++ s ∷ [] → site_of s ≡ a
    → map site_of ys ≡ map site_of xs ++ a ∷ []
site_pushed xs ys s a e f = ap (map site_of) e ∙ map_push site_of xs s
    ∙ ap (λ z. map site_of xs ++ z ∷ []) f

pub arguments_are : (n : Numbered) (xs : List (ExprAt ℕ))
    → map expression_of (map (λ (x : ExprAt ℕ). in_numbers n x.expr) xs)
    ≡ map (λ (x : ExprAt ℕ). expression_of (in_numbers n x.expr)) xs
arguments_are n [] = refl
arguments_are n (x ∷ xs) = ap (λ es. expression_of (in_numbers n x.expr) ∷ es) (arguments_are n xs)
