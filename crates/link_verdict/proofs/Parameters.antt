-- What names mean in a body: parameters their kinds, and no name is a signal.
use Rattle.std.proofs.Common.{◌≡◌, ℕ, ◌+◌, ◌-◌, ◌<◌, Bool, true, false, cond, Some, List, ◌∷◌, length, drop, get_or, refl, sym, ◌∙◌, ap, arith}
use Rattle.std.proofs.lemmas.List.{drop_more}
use Rattle.std.specs.Prelude.{option_map, []}
use Rattle.std.proofs.Math.Path.{fun_ext}
use Rattle.std.specs.Str.{bytes_eq}
use Rattle.hh_base.specs.declared.value.Kind.{Kind}
use Rattle.module_tree.specs.declared.source.ParameterNode.{ParameterNode}
use Rattle.link_faults.specs.declared.names.Meaning.{Meaning}
use Rattle.link_faults.specs.declared.names.Names.{Names}
use Rattle.link_faults.specs.Named.{Name, parameter_named}
use Rattle.link_faults.specs.InnermostFirst.{IsScope, in_scope, place_in}
use Rattle.link_faults.specs.Rows.{no_kinds}
use Rattle.link_faults.specs.Meanings.{meaning_at, kind_of_signal}
use Rattle.link_verdict.specs.Declarations.{kinds_of_parameters}

abbrev kind_of : ParameterNode → Kind
kind_of p = p.kind

pub one_before : (p : ParameterNode) (ps : List ParameterNode) (q : Name)
    → cond (bytes_eq p.name q) (Some p.kind) (kinds_of_parameters ps q) ≡ kinds_of_parameters (p ∷ ps) q
one_before p ps q = by (bytes_eq p.name q)
  where
    by : (b : Bool) → cond b (Some p.kind) (kinds_of_parameters ps q)
        ≡ option_map kind_of (cond b (Some p) (parameter_named ps q))
    by true = refl
    by false = refl

-- the parameter before those that are kept
pub one_more_kind : (parameters : List ParameterNode) (behind : ℕ) (p : ParameterNode) (q : Name)
    → behind < length parameters → p ≡ get_or parameters (length parameters - 1 - behind) p
    → cond (bytes_eq p.name q) (Some p.kind)
    (kinds_of_parameters (drop (length parameters - behind) parameters) q)
    ≡ kinds_of_parameters (drop (length parameters - (behind + 1)) parameters) q
one_more_kind parameters behind p q within at =
    let i = length parameters - 1 - behind in
    let next : length parameters - behind ≡ i + 1 = omega (arith, within) in
    let own : length parameters - (behind + 1) ≡ i = omega (arith, within) in
    let lt : i < length parameters = omega (arith, within) in
    ap (λ n. cond (bytes_eq p.name q) (Some p.kind) (kinds_of_parameters (drop n parameters) q)) next
    ∙ one_before p (drop (i + 1) parameters) q
    ∙ ap (λ ps. kinds_of_parameters ps q) (ap (λ y. y ∷ drop (i + 1) parameters) at
    ∙ sym (drop_more parameters i p lt))
    ∙ ap (λ n. kinds_of_parameters (drop n parameters) q) (sym own)

pub no_signals : (names : Names) → IsScope names.signals → in_scope names.signals ≡ []
    → kind_of_signal names ≡ no_kinds
no_signals names s none = fun_ext (λ q. ap (λ o. option_map (λ (m : Meaning). m.kind) (meaning_at names o))
    (s.found q ∙ ap (λ ns. place_in ns q) none))
