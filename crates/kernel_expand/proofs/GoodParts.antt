-- What the tests of a linked text say of each part: its names are in scope, its kinds fit, and its sizes
-- are within the limits.
use Rattle.std.proofs.Common.{◌≡◌, ℕ, ◌≤◌, Bool, true, List, [], ◌∷◌, Option, Some, None, refl}
use Rattle.std.proofs.Common.{sym, subst, ◌∙◌, append-nil, leb-true}
use Rattle.std.specs.Prelude.{◌&&◌, is_some, slice_get}
use Rattle.std.specs.List.{AllByRecursion, flat_map, list_all}
use Rattle.hh_base.specs.declared.value.Kind.{Kind}
use Rattle.hh_base.specs.declared.value.Kind.TheVariants as kind
use Rattle.hh_base.specs.declared.value.Value.{Value}
use Rattle.hh_base.specs.declared.value.CombineWord.{CombineWord}
use Rattle.hh_base.specs.declared.value.CombineWord.TheVariants as word
use Rattle.hh_base.specs.Value.{kind_of}
use Rattle.host_expr.specs.declared.expr.Expr.{Expr}
use Rattle.host_expr.specs.declared.expr.TheConstants.{EXPRESSION_LIMIT}
use Rattle.host_expr.specs.Expression.{expression_of}
use Rattle.host_expr.specs.Kinds.{kind_of_expression}
use Rattle.host_expr.specs.Measures as measures
use Rattle.module_tree.specs.declared.source.NameAt.{NameAt}
use Rattle.module_tree.specs.declared.source.ExprAt.{ExprAt}
use Rattle.module_tree.specs.declared.source.SignalNode.{SignalNode}
use Rattle.module_tree.specs.declared.source.AsyncNode.{AsyncNode}
use Rattle.module_tree.specs.Scopes.{InScope, signal_at}
use Rattle.module_tree.specs.Callables.{Signature}
use Rattle.module_tree.specs.Parts.{StatementPart, Test, Emission, Start, Placed}
use Rattle.module_tree.specs.Parts.{signals_read, signals_named, parameters_named, expressions_of, if_any}
use Rattle.module_tree.specs.LinkedFacts.{Known, is_in_scope, no_more, refers, is_kind, has_kind, kinds_fit}
use Rattle.module_tree.specs.LinkedFacts.{is_limited, is_small, counts, binds_interface, sig_fits, first_fits}
use Rattle.module_tree.specs.LinkedFacts.{combine_fits, emission_fits, arguments_fit, result_fits, start_fits}
use Rattle.module_tree.specs.LinkedFacts.{kind_of_word}
use Rattle.hh_term.specs.Kernel.{Body}
use Rattle.hh_term.specs.Fits.{SignalFits, WordFits}
use Rattle.hh_term.specs.Fits as fits
use Rattle.kernel_expand.specs.Interpretation.{value_of}
use Rattle.kernel_expand.specs.Numbering.{Piece, local_signal, first_or_default}
use Rattle.hh_base.specs.Value.{default_of}
use Rattle.kernel_expand.proofs.Progress.{both_true}
use Rattle.kernel_expand.proofs.Replaced.{both_all}
use Rattle.kernel_expand.proofs.Reading.{places, same_reads}
use Rattle.kernel_expand.proofs.Good.{FitsTest}
use Rattle.kernel_expand.proofs.GoodNames.{FitsEmission}
use Rattle.kernel_expand.proofs.GoodSites.{FitsStart, ArgumentsStand, ResultStands}
use Rattle.hh_base.specs.declared.value.Pos.{Pos}

-- what the tests say of a part
pub record PartStands (known : Known) (p : Placed ℕ) : Type 0 where
  pub scopes : is_in_scope known p ≡ true
  pub kinds : kinds_fit known p.part ≡ true
  pub limits : is_limited p.part ≡ true
  pub bindings : binds_interface known p.part ≡ true

-- ---- tests on lists and kinds

pub all_of_test : {A : Type 0} (test : A → Bool) (xs : List A) → list_all test xs ≡ true
    → AllByRecursion (λ x. test x ≡ true) xs
all_of_test test [] h = tt
all_of_test test (x ∷ xs) h = let q = both_true (test x) (list_all test xs) h in (q.0, all_of_test test xs q.1)

pub is_this_kind : (k : Kind) (o : Option Kind) → is_kind k o ≡ true → o ≡ Some k
is_this_kind kind.Pure (Some kind.Pure) e = refl
is_this_kind kind.Int (Some kind.Int) e = refl
is_this_kind kind.Bool (Some kind.Bool) e = refl
is_this_kind kind.Text (Some kind.Text) e = refl
is_this_kind kind.Pure None e = absurd (let no : ⊥ = cc in no)
is_this_kind kind.Int None e = absurd (let no : ⊥ = cc in no)
is_this_kind kind.Bool None e = absurd (let no : ⊥ = cc in no)
is_this_kind kind.Text None e = absurd (let no : ⊥ = cc in no)
is_this_kind kind.Pure (Some kind.Int) e = absurd (let no : ⊥ = cc in no)
is_this_kind kind.Pure (Some kind.Bool) e = absurd (let no : ⊥ = cc in no)
is_this_kind kind.Pure (Some kind.Text) e = absurd (let no : ⊥ = cc in no)
is_this_kind kind.Int (Some kind.Pure) e = absurd (let no : ⊥ = cc in no)
is_this_kind kind.Int (Some kind.Bool) e = absurd (let no : ⊥ = cc in no)
is_this_kind kind.Int (Some kind.Text) e = absurd (let no : ⊥ = cc in no)
is_this_kind kind.Bool (Some kind.Pure) e = absurd (let no : ⊥ = cc in no)
is_this_kind kind.Bool (Some kind.Int) e = absurd (let no : ⊥ = cc in no)
is_this_kind kind.Bool (Some kind.Text) e = absurd (let no : ⊥ = cc in no)
is_this_kind kind.Text (Some kind.Pure) e = absurd (let no : ⊥ = cc in no)
is_this_kind kind.Text (Some kind.Int) e = absurd (let no : ⊥ = cc in no)
is_this_kind kind.Text (Some kind.Bool) e = absurd (let no : ⊥ = cc in no)

pub same_kinds : (j k : Kind) → Some j ≡ Some k → j ≡ k
same_kinds j k e = let q : j ≡ k = cc in q

-- ---- declarations

default_fits : (k : Kind) → kind_of (default_of k) ≡ k
default_fits kind.Pure = refl
default_fits kind.Int = refl
default_fits kind.Bool = refl
default_fits kind.Text = refl

pub first_is : (k : Kind) (first : Option Value) → first_fits k first ≡ true
    → kind_of (first_or_default k first) ≡ k
first_is k None e = default_fits k
first_is k (Some v) e = same_kinds (kind_of v) k (is_this_kind k (Some (kind_of v)) e)

same_word : (w : CombineWord) → kind_of_word w ≡ fits.kind_of_word w
same_word word.Plus = refl
same_word word.Min = refl
same_word word.Max = refl
same_word word.And = refl
same_word word.Or = refl

pub combine_is : (k : Kind) (w : Option CombineWord) → combine_fits k w ≡ true → WordFits k w
combine_is k None e = tt
combine_is k (Some w) e = sym (same_word w) ∙ same_kinds (kind_of_word w) k (is_this_kind k (Some (kind_of_word w)) e)

pub local_fits : (d : SignalNode) → sig_fits d ≡ true → SignalFits (local_signal d)
local_fits d e =
    let q = both_true (first_fits d.kind d.first) (combine_fits d.kind d.combine) e in
    record { first = first_is d.kind d.first q.0; combine = combine_is d.kind d.combine q.1; named = tt }

pub locals_fit : (ds : List SignalNode) → list_all sig_fits ds ≡ true
    → AllByRecursion (λ (d : SignalNode). SignalFits (local_signal d)) ds
locals_fit [] e = tt
locals_fit (d ∷ ds) e = let q = both_true (sig_fits d) (list_all sig_fits ds) e in (local_fits d q.0, locals_fit ds q.1)

-- ---- names in scope

abbrev pub IsSeen : InScope → ℕ → Type 0
IsSeen scope place = is_some (signal_at scope place) ≡ true

seen_places : (scope : InScope) (ns : List (NameAt ℕ))
    → AllByRecursion (λ (n : NameAt ℕ). is_some (signal_at scope n.name) ≡ true) ns
    → AllByRecursion (IsSeen scope) (places ns)
seen_places scope [] h = tt
seen_places scope (n ∷ ns) h = (h.0, seen_places scope ns h.1)

-- the names of a part are all in scope
pub names_seen : (known : Known) (p : Placed ℕ) → PartStands known p
    → AllByRecursion (λ (n : NameAt ℕ). is_some (signal_at p.scope n.name) ≡ true) (signals_named p.part)
names_seen known p s =
    let q = both_true (list_all (λ (n : NameAt ℕ). is_some (signal_at p.scope n.name)) (signals_named p.part)
    && no_more (parameters_named p.part)) (refers known p.scope p.part) s.scopes in
    let r = both_true (list_all (λ (n : NameAt ℕ). is_some (signal_at p.scope n.name)) (signals_named p.part))
    (no_more (parameters_named p.part)) q.0 in
    all_of_test (λ (n : NameAt ℕ). is_some (signal_at p.scope n.name)) (signals_named p.part) r.0

pub refers_there : (known : Known) (p : Placed ℕ) → PartStands known p → refers known p.scope p.part ≡ true
refers_there known p s =
    (both_true (list_all (λ (n : NameAt ℕ). is_some (signal_at p.scope n.name)) (signals_named p.part)
    && no_more (parameters_named p.part)) (refers known p.scope p.part) s.scopes).1

small_there : (x : ExprAt ℕ) → is_small x ≡ true
    → measures.leaves_and_operators (expression_of x.expr) ≤ EXPRESSION_LIMIT
small_there x e = leb-true (measures.leaves_and_operators (expression_of x.expr)) EXPRESSION_LIMIT e

module _ (bodies : List Body) (interface : ℕ) (known : Known) where
  abbrev Fits : InScope → Kind → Expr ℕ → Type 0
  Fits = FitsTest bodies interface known.kinds

  -- an expression whose names are in scope
  expression_fits : (scope : InScope) (k : Kind) (x : ExprAt ℕ)
      → AllByRecursion (λ (n : NameAt ℕ). is_some (signal_at scope n.name) ≡ true) (signals_read x.expr)
      → has_kind known.kinds [] k x ≡ true → is_small x ≡ true → Fits scope k x.expr
  expression_fits scope k x seen h small =
      record {
        seen = subst (AllByRecursion (IsSeen scope)) (same_reads x.expr)
            (seen_places scope (signals_read x.expr) seen);
        kind = is_this_kind k (kind_of_expression known.kinds [] (expression_of x.expr)) h;
        small = small_there x small;
      }

  all_small : (part : StatementPart ℕ) → is_limited part ≡ true
      → AllByRecursion (λ (x : ExprAt ℕ). is_small x ≡ true) (expressions_of part)
  all_small part e = all_of_test is_small (expressions_of part)
      (both_true (counts part) (list_all is_small (expressions_of part)) e).1

  pub test_stands : (scope : InScope) (x : ExprAt ℕ)
      → PartStands known (record { scope = scope; part = Test x }) → Fits scope kind.Bool x.expr
  test_stands scope x s =
      let seen = names_seen known (record { scope = scope; part = Test x }) s in
      expression_fits scope kind.Bool x (subst (AllByRecursion (λ (n : NameAt ℕ). is_some
      (signal_at scope n.name) ≡ true)) (append-nil (signals_read x.expr)) seen) s.kinds
      (all_small (Test x) s.limits).0

  no_value : (kinds : List Kind) (o : Option Kind) → emission_fits kinds o None ≡ true → o ≡ Some kind.Pure
  no_value kinds None e = absurd (let no : ⊥ = cc in no)
  no_value kinds (Some kind.Pure) e = refl
  no_value kinds (Some kind.Int) e = absurd (let no : ⊥ = cc in no)
  no_value kinds (Some kind.Bool) e = absurd (let no : ⊥ = cc in no)
  no_value kinds (Some kind.Text) e = absurd (let no : ⊥ = cc in no)

  a_value : (kinds : List Kind) (o : Option Kind) (x : ExprAt ℕ) → emission_fits kinds o (Some x) ≡ true
      → (k : Kind) × (o ≡ Some k) × (has_kind kinds [] k x ≡ true)
  a_value kinds None x e = absurd (let no : ⊥ = cc in no)
  a_value kinds (Some kind.Pure) x e = absurd (let no : ⊥ = cc in no)
  a_value kinds (Some kind.Int) x e = (kind.Int, refl, e)
  a_value kinds (Some kind.Bool) x e = (kind.Bool, refl, e)
  a_value kinds (Some kind.Text) x e = (kind.Text, refl, e)

  pub emission_stands : (f : ℕ → Piece) (pos : Pos) (scope : InScope) (n : NameAt ℕ) (v : Option (ExprAt ℕ))
      → PartStands known (record { scope = scope; part = Emission n v })
      → FitsEmission bodies interface known.kinds f pos scope n.name (value_of v)
  emission_stands f pos scope n None s =
      record {
        seen = (names_seen known (record { scope = scope; part = Emission n None }) s).0;
        value = no_value known.kinds (slice_get known.kinds n.name) s.kinds;
      }
  emission_stands f pos scope n (Some x) s =
      let seen = names_seen known (record { scope = scope; part = Emission n (Some x) }) s in
      let q = a_value known.kinds (slice_get known.kinds n.name) x s.kinds in
      record {
        seen = seen.0;
        value = (
          q.0,
          q.1,
          expression_fits scope q.0 x (subst (AllByRecursion (λ (n : NameAt ℕ). is_some
              (signal_at scope n.name) ≡ true)) (append-nil (signals_read x.expr)) seen.1) q.2
              (all_small (Emission n (Some x)) s.limits).0,
        );
      }

  -- ---- async sites

  arguments_stand : (scope : InScope) (ks : List Kind) (xs : List (ExprAt ℕ))
      → AllByRecursion (λ (n : NameAt ℕ). is_some (signal_at scope n.name) ≡ true)
      (flat_map (λ (x : ExprAt ℕ). signals_read x.expr) xs)
      → AllByRecursion (λ (x : ExprAt ℕ). is_small x ≡ true) xs → arguments_fit known.kinds ks xs ≡ true
      → ArgumentsStand bodies interface known.kinds scope ks xs
  arguments_stand scope [] [] seen small e = tt
  arguments_stand scope [] (x ∷ xs) seen small e = absurd (let no : ⊥ = cc in no)
  arguments_stand scope (k ∷ ks) [] seen small e = absurd (let no : ⊥ = cc in no)
  arguments_stand scope (k ∷ ks) (x ∷ xs) seen small e =
      let q = both_all (λ (n : NameAt ℕ). is_some (signal_at scope n.name) ≡ true) (signals_read x.expr)
      (flat_map (λ (x : ExprAt ℕ). signals_read x.expr) xs) seen in
      let r = both_true (has_kind known.kinds [] k x) (arguments_fit known.kinds ks xs) e in
      (expression_fits scope k x q.0 r.0 small.0, arguments_stand scope ks xs q.1 small.1 r.1)

  result_stands : (scope : InScope) (k : Kind) (s : Option (NameAt ℕ))
      → AllByRecursion (λ (n : NameAt ℕ). is_some (signal_at scope n.name) ≡ true) (if_any s)
      → result_fits known.kinds k s ≡ true → ResultStands bodies interface known.kinds scope k s
  result_stands scope k None seen e = tt
  result_stands scope k (Some n) seen e = (seen.0, is_this_kind k (slice_get known.kinds n.name) e)

  -- each signature is that of a body
  abbrev pub BodiesAre : Type 0
  BodiesAre = (i : ℕ) (s : Signature) → slice_get known.signatures i ≡ Some s
      → (b : Body) × (slice_get bodies i ≡ Some b) × (b.params ≡ s.parameters) × (b.answer ≡ s.answer)

  pub start_stands : BodiesAre → (scope : InScope) (a : AsyncNode ℕ)
      → PartStands known (record { scope = scope; part = Start a })
      → FitsStart bodies interface known.kinds scope a
  start_stands are scope a s = by_signature (slice_get known.signatures a.body.name) refl s.kinds
    where
      by_signature : (o : Option Signature) → slice_get known.signatures a.body.name ≡ o
          → start_fits known.kinds a o ≡ true → FitsStart bodies interface known.kinds scope a
      by_signature None at e = absurd (let no : ⊥ = cc in no)
      by_signature (Some g) at e =
          let b = are a.body.name g at in
          let seen = names_seen known (record { scope = scope; part = Start a }) s in
          let q = both_all (λ (n : NameAt ℕ). is_some (signal_at scope n.name) ≡ true) (if_any a.signal)
          (flat_map (λ (x : ExprAt ℕ). signals_read x.expr) a.args) seen in
          let r = both_true (arguments_fit known.kinds g.parameters a.args)
          (result_fits known.kinds g.answer a.signal) e in
          record {
            body = b.0;
            declared = b.1;
            arguments = subst (λ ks. ArgumentsStand bodies interface known.kinds scope ks a.args) (sym b.2)
                (arguments_stand scope g.parameters a.args q.1 (all_small (Start a) s.limits) r.0);
            result = subst (λ k. ResultStands bodies interface known.kinds scope k a.signal) (sym b.3)
                (result_stands scope g.answer a.signal q.0 r.1);
          }
