-- An async site whose arguments and result fit its body makes a good statement.
use Rattle.std.proofs.Common.{◌≡◌, ℕ, List, [], ◌∷◌, ◌++◌, length, map, Option, Some, None, refl, sym, ap, subst}
use Rattle.std.proofs.Common.{◌∙◌, true}
use Rattle.std.specs.Prelude.{is_some, slice_get}
use Rattle.std.specs.List.{AllByRecursion, flat_map}
use Rattle.hh_base.specs.declared.value.Pos.{Pos}
use Rattle.hh_base.specs.declared.value.Kind.{Kind}
use Rattle.host_expr.specs.Expression.{Expression, expression_of}
use Rattle.host_expr.specs.Measures.{signals_read}
use Rattle.module_tree.specs.declared.source.NameAt.{NameAt}
use Rattle.module_tree.specs.declared.source.ExprAt.{ExprAt}
use Rattle.module_tree.specs.declared.source.AsyncNode.{AsyncNode}
use Rattle.module_tree.specs.Scopes.{InScope, Declared, signal_at}
use Rattle.hh_term.specs.Kernel.{Kernel, Body, AsyncSite}
use Rattle.hh_term.specs.Scopes.{IsInScope, signal_list, site_signals}
use Rattle.hh_term.specs.Fits.{SiteFits, SiteFitsBody, ArgumentsFit, ResultFits}
use Rattle.kernel_expand.specs.Numbering.{Around, Numbered, Piece, in_numbers, result_in_numbers}
use Rattle.kernel_expand.specs.Numbering.{site_in_numbers, with_site, numbering}
use Rattle.kernel_expand.proofs.Replaced.{all_both}
use Rattle.kernel_expand.proofs.Standing.{Kept, whole_before}
use Rattle.kernel_expand.proofs.Sound.{WholeIn}
use Rattle.kernel_expand.proofs.Good.{Inside, Good, Standing, FitsTest, there, still, in_scope, kind_of_place}
use Rattle.kernel_expand.proofs.Good.{test_fits, test_uses}

signals_of_site : Option AsyncSite → List ℕ
signals_of_site o = signal_list (elim o as (λ x. Option ℕ) [ Some a ↦ a.signal | None ↦ None ])
    ++ flat_map signals_read (elim o as (λ x. List Expression) [ Some a ↦ a.args | None ↦ [] ])

site_signals_are : (K : Kernel) (i : ℕ) (a : AsyncSite) → slice_get K.sites i ≡ Some a
    → site_signals K i ≡ signal_list a.signal ++ flat_map signals_read a.args
unfolding signals_of_site
site_signals_are K i a e = ap signals_of_site e

kept_with_site : (a : AsyncSite) (n : Numbered) → Kept n (with_site a n)
kept_with_site a n = record {
  kinds = λ s k h. h;
  sites = λ i b h. still n.sites (a ∷ []) i b h;
  places = λ p h. (h, refl);
}

module _ (bodies : List Body) (interface : ℕ) (kinds : List Kind) where
  abbrev pub ArgumentsStand : InScope → List Kind → List (ExprAt ℕ) → Type 0
  ArgumentsStand scope [] [] = Unit {0}
  ArgumentsStand scope (k ∷ ks) (x ∷ xs) = FitsTest bodies interface kinds scope k x.expr × ArgumentsStand scope ks xs
  ArgumentsStand scope _ _ = ⊥

  abbrev pub ResultStands : InScope → Kind → Option (NameAt ℕ) → Type 0
  ResultStands scope k None = Unit {0}
  ResultStands scope k (Some s) = (is_some (signal_at scope s.name) ≡ true) × (slice_get kinds s.name ≡ Some k)

  pub record FitsStart (scope : InScope) (a : AsyncNode ℕ) : Type 0 where
    pub body : Body
    pub declared : slice_get bodies a.body.name ≡ Some body
    pub arguments : ArgumentsStand scope body.params a.args
    pub result : ResultStands scope body.answer a.signal

  module _ (scope : InScope) (before : Declared) (a : Around) (n : Numbered) (ls : List ℕ)
      (st : Standing bodies interface kinds scope before a n ls) (K : Kernel)
      (w : WholeIn bodies interface n K) where
    abbrev in_program : List (ExprAt ℕ) → List Expression
    in_program = map (λ (x : ExprAt ℕ). expression_of (in_numbers n x.expr))

    arguments_fit : (ks : List Kind) (xs : List (ExprAt ℕ)) → ArgumentsStand scope ks xs
        → ArgumentsFit K ks (in_program xs)
    arguments_fit [] [] h = tt
    arguments_fit [] (x ∷ xs) h = absurd h
    arguments_fit (k ∷ ks) [] h = absurd h
    arguments_fit (k ∷ ks) (x ∷ xs) h = (
      test_fits bodies interface kinds scope before a n ls st K w k x.expr h.0,
      arguments_fit ks xs h.1,
    )

    arguments_use : (ks : List Kind) (xs : List (ExprAt ℕ)) → ArgumentsStand scope ks xs
        → AllByRecursion (IsInScope K ls) (flat_map signals_read (in_program xs))
    arguments_use [] [] h = tt
    arguments_use [] (x ∷ xs) h = absurd h
    arguments_use (k ∷ ks) [] h = absurd h
    arguments_use (k ∷ ks) (x ∷ xs) h = all_both (IsInScope K ls) _ _
        (test_uses bodies interface kinds scope before a n ls st K w k x.expr h.0) (arguments_use ks xs h.1)

    result_fits : (k : Kind) (s : Option (NameAt ℕ)) → ResultStands scope k s
        → ResultFits K k (result_in_numbers n s)
    result_fits k None h = tt
    result_fits k (Some s) h = kind_of_place bodies interface kinds scope before a n ls st K w s.name h.0 ∙ h.1

    result_uses : (k : Kind) (s : Option (NameAt ℕ)) → ResultStands scope k s
        → AllByRecursion (IsInScope K ls) (signal_list (result_in_numbers n s))
    result_uses k None h = tt
    result_uses k (Some s) h = (in_scope bodies interface kinds scope before a n ls st K w s.name h.0, tt)

  pub good_async : (f : ℕ → Piece) (pos : Pos) (c : Inside) (scope : InScope) (before : Declared)
      (d : AsyncNode ℕ) → FitsStart scope d
      → Good bodies interface kinds c scope before before ((numbering f pos).async d)
  good_async f pos c scope before d fs a n ls al st =
      let site = site_in_numbers n d in
      let m = with_site site n in
      let kept = kept_with_site site n in
      record {
        sound = record {
          kept = kept;
          exits = tt;
          fits = λ K w. tt;
          uses = λ K w.
              let v = whole_before bodies interface n m K kept w in
              subst (AllByRecursion (IsInScope K ls))
              (sym (site_signals_are K (length n.sites) site (w.sites (length n.sites) site (there n.sites site))))
              (all_both (IsInScope K ls) _ _ (result_uses scope before a n ls st K v fs.body.answer d.signal
              fs.result) (arguments_use scope before a n ls st K v fs.body.params d.args fs.arguments));
          sites = λ K w h.
              let v = whole_before bodies interface n m K kept w in
              let fits : SiteFitsBody K site (Some fs.body) = (
                arguments_fit scope before a n ls st K v fs.body.params d.args fs.arguments,
                result_fits scope before a n ls st K v fs.body.answer d.signal fs.result,
              ) in
              all_both (SiteFits K) n.sites (site ∷ []) h (
                subst (SiteFitsBody K site) (sym (ap (λ z. slice_get z d.body.name) w.bodies_are ∙ fs.declared)) fits,
                tt,
              );
          signals = λ h. h;
        };
        places = st.places;
        traps = st.traps;
      }
