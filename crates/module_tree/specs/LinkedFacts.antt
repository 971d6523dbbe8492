-- What the tree of a text keeps whose names are resolved. This project's own.
use Rattle.std.specs.Prelude.{◌≡◌, ℕ, ◌+◌, ◌==◌, ◌&&◌, ◌||◌, Bool, true, false, not, Option, Some, None}
use Rattle.std.specs.Prelude.{is_some, List, [], ◌∷◌, ◌++◌, map, slice_get, nat_le}
use Rattle.std.specs.List.{flat_map, list_all, list_any}
use Rattle.std.specs.Str.{bytes_eq}
use Rattle.hh_base.specs.Value.{kind_of, is_valued, is_interface}
use Rattle.hh_base.specs.declared.value.Kind.{Kind}
use Rattle.hh_base.specs.declared.value.Kind.TheVariants as kind
use Rattle.hh_base.specs.declared.value.Dir.{Dir}
use Rattle.hh_base.specs.declared.value.Dir.TheVariants as dir
use Rattle.hh_base.specs.declared.value.Value.{Value}
use Rattle.hh_base.specs.declared.value.CombineWord.{CombineWord}
use Rattle.hh_base.specs.declared.value.CombineWord.TheVariants as word
use Rattle.host_expr.specs.Expression.{expression_of}
use Rattle.host_expr.specs.Kinds.{kind_of_expression}
use Rattle.host_expr.specs.Measures.{leaves_and_operators}
use Rattle.host_expr.specs.declared.expr.TheConstants.{EXPRESSION_LIMIT}
use Rattle.module_tree.specs.declared.limits.TheConstants.{COUNT_LIMIT}
use Rattle.module_tree.specs.declared.source.NameAt.{NameAt}
use Rattle.module_tree.specs.declared.source.ExprAt.{ExprAt}
use Rattle.module_tree.specs.declared.source.SignalNode.{SignalNode}
use Rattle.module_tree.specs.declared.source.InterfaceNode.{InterfaceNode}
use Rattle.module_tree.specs.declared.source.ParameterNode.{ParameterNode}
use Rattle.module_tree.specs.declared.source.Binding.{Binding}
use Rattle.module_tree.specs.declared.source.AsyncNode.{AsyncNode}
use Rattle.module_tree.specs.declared.source.ModuleNode.{ModuleNode}
use Rattle.module_tree.specs.declared.source.Part.{Part}
use Rattle.module_tree.specs.declared.source.Part.TheVariants as top
use Rattle.module_tree.specs.Scopes.{Signal, InScope, signal_at, trap_at}
use Rattle.module_tree.specs.Parts.{StatementPart, Test, Times, Emission, Locals, Exit, Call, Start, Placed}
use Rattle.module_tree.specs.Parts.{parts_of, expressions_of, signals_named, parameters_named}
use Rattle.module_tree.specs.DeclaredAt.{NamesGoByPosition}
use Rattle.module_tree.specs.Callables.{Signature, modules_of, signatures_of, interfaces_of}

-- ---- what the parts are judged against: the interfaces of all modules, the signatures of all bodies and
-- hosts, and the kinds of the signals of the part's own module, all by their places

pub record Known : Type 0 where
  pub interfaces : List (List InterfaceNode)
  pub signatures : List Signature
  pub kinds : List Kind

abbrev pub locals_of : {R : Type 0} → StatementPart R → List SignalNode
locals_of (Locals signals) = signals
locals_of _ = []

-- the signals of a module by their places: its interface, and then its local ones in the order of the text
abbrev pub sigs_of : {R : Type 0} → ModuleNode R → List SignalNode
sigs_of {R} m = map (λ (d : InterfaceNode). d.signal) m.interface
    ++ flat_map (λ (p : Placed R). locals_of p.part) (parts_of m)

abbrev pub known_in : {R : Type 0} → List (Part R) → ModuleNode R → Known
known_in parts m = record {
  interfaces = interfaces_of parts;
  signatures = signatures_of parts;
  kinds =
      map (λ (s : SignalNode). s.kind) (sigs_of m);
}

-- what holds of each part of each module
abbrev pub in_each_part : (Known → Placed ℕ → Bool) → List (Part ℕ) → Bool
in_each_part test parts = list_all (λ (m : ModuleNode ℕ). list_all (test (known_in parts m)) (parts_of m))
    (modules_of parts)

-- ---- places

-- the trap round a `break`, the module that is run, the body that is called are there
abbrev pub refers : Known → InScope → StatementPart ℕ → Bool
refers known scope (Exit t) = is_some (trap_at scope t.name)
refers known scope (Call callee bindings) = is_some (slice_get known.interfaces callee.name)
refers known scope (Start a) = is_some (slice_get known.signatures a.body.name)
refers known scope _ = true

abbrev pub no_more : {A : Type 0} → List A → Bool
no_more [] = true
no_more (x ∷ xs) = false

-- each place is there, and is that of its scope
abbrev pub is_in_scope : Known → Placed ℕ → Bool
is_in_scope known p =
    list_all (λ (n : NameAt ℕ). is_some (signal_at p.scope n.name)) (signals_named p.part)
    && no_more (parameters_named p.part) && refers known p.scope p.part

-- ---- kinds

abbrev pub is_kind : Kind → Option Kind → Bool
is_kind kind.Pure (Some kind.Pure) = true
is_kind kind.Int (Some kind.Int) = true
is_kind kind.Bool (Some kind.Bool) = true
is_kind kind.Text (Some kind.Text) = true
is_kind _ _ = false

-- the expression passes `check`, and has this kind
abbrev pub has_kind : List Kind → List Kind → Kind → ExprAt ℕ → Bool
has_kind signals args k x = is_kind k (kind_of_expression signals args (expression_of x.expr))

abbrev pub kind_of_word : CombineWord → Kind
kind_of_word word.Plus = kind.Int
kind_of_word word.Min = kind.Int
kind_of_word word.Max = kind.Int
kind_of_word word.And = kind.Bool
kind_of_word word.Or = kind.Bool

abbrev pub first_fits : Kind → Option Value → Bool
first_fits k None = true
first_fits k (Some v) = is_kind k (Some (kind_of v))

abbrev pub combine_fits : Kind → Option CombineWord → Bool
combine_fits k None = true
combine_fits k (Some w) = is_kind k (Some (kind_of_word w))

-- the first value and the combine word are of the signal's kind
abbrev pub sig_fits : SignalNode → Bool
sig_fits s = first_fits s.kind s.first && combine_fits s.kind s.combine

-- a value exactly where the signal is valued, and of its kind
abbrev pub emission_fits : List Kind → Option Kind → Option (ExprAt ℕ) → Bool
emission_fits kinds (Some kind.Pure) None = true
emission_fits kinds (Some kind.Int) (Some x) = has_kind kinds [] kind.Int x
emission_fits kinds (Some kind.Bool) (Some x) = has_kind kinds [] kind.Bool x
emission_fits kinds (Some kind.Text) (Some x) = has_kind kinds [] kind.Text x
emission_fits kinds _ _ = false

-- as many arguments as parameters, and each of its kind
abbrev pub arguments_fit : List Kind → List Kind → List (ExprAt ℕ) → Bool
arguments_fit kinds [] [] = true
arguments_fit kinds (k ∷ ks) (x ∷ xs) = has_kind kinds [] k x && arguments_fit kinds ks xs
arguments_fit kinds _ _ = false

abbrev pub result_fits : List Kind → Kind → Option (NameAt ℕ) → Bool
result_fits kinds k None = true
result_fits kinds k (Some n) = is_kind k (slice_get kinds n.name)

abbrev pub start_fits : List Kind → AsyncNode ℕ → Option Signature → Bool
start_fits kinds a None = false
start_fits kinds a (Some s) = arguments_fit kinds s.parameters a.args && result_fits kinds s.answer a.signal

-- one binding for each signal of the interface, in its order, which passes the test
abbrev pub each_binding : (Binding ℕ → InterfaceNode → Bool) → List (Binding ℕ) → List InterfaceNode → Bool
each_binding test [] [] = true
each_binding test (b ∷ bs) (d ∷ ds) = test b d && each_binding test bs ds
each_binding test _ _ = false

abbrev pub each_bound : (Binding ℕ → InterfaceNode → Bool) → List (Binding ℕ) → Option (List InterfaceNode)
    → Bool
each_bound test bindings None = false
each_bound test bindings (Some interface) = each_binding test bindings interface

-- kinds fit: a test is `bool`, and an emission, a first value, a combine word, an argument, a result and a
-- bound signal have the kind of their place
abbrev pub kinds_fit : Known → StatementPart ℕ → Bool
kinds_fit known (Test x) = has_kind known.kinds [] kind.Bool x
kinds_fit known (Emission n value) = emission_fits known.kinds (slice_get known.kinds n.name) value
kinds_fit known (Times n) = true
kinds_fit known (Locals signals) = list_all sig_fits signals
kinds_fit known (Exit t) = true
kinds_fit known (Call callee bindings) =
    each_bound (λ b d. is_kind d.signal.kind (slice_get known.kinds b.right.name)) bindings
    (slice_get known.interfaces callee.name)
kinds_fit known (Start a) = start_fits known.kinds a (slice_get known.signatures a.body.name)

-- the kinds of a declaration fit: of an interface, or of a body's expression over its parameters
abbrev pub declaration_fits : Part ℕ → Bool
declaration_fits (top.Module m) = list_all (λ (d : InterfaceNode). sig_fits d.signal) m.interface
declaration_fits (top.Body b) = has_kind [] (map (λ (p : ParameterNode). p.kind) b.parameters) b.answer b.expr
declaration_fits (top.Host h) = true

-- ---- inputs

abbrev pub is_input : Dir → Bool
is_input dir.Input = true
is_input _ = false

-- the signal of this place in scope may be emitted
abbrev pub may_emit : Option Signal → Bool
may_emit None = false
may_emit (Some s) = not (is_input s.dir)

abbrev pub emits_in_scope : InScope → ℕ → Bool
emits_in_scope scope place = may_emit (signal_at scope place)

abbrev pub result_emits : InScope → Option (NameAt ℕ) → Bool
result_emits scope None = true
result_emits scope (Some n) = emits_in_scope scope n.name

-- no `in` signal is emitted, takes an answer, or is bound to a signal that the module which is run may emit
abbrev pub no_input_emitted : Known → InScope → StatementPart ℕ → Bool
no_input_emitted known scope (Emission n value) = emits_in_scope scope n.name
no_input_emitted known scope (Start a) = result_emits scope a.signal
no_input_emitted known scope (Call callee bindings) =
    each_bound (λ b d. is_input d.dir || emits_in_scope scope b.right.name) bindings
    (slice_get known.interfaces callee.name)
no_input_emitted known scope _ = true

-- ---- runs

abbrev pub places_from : ℕ → List (Binding ℕ) → Bool
places_from n [] = true
places_from n (b ∷ bs) = (b.left.name == n) && places_from (n + 1) bs

-- a run has one binding for each interface signal of the module that it runs, in its order
abbrev pub binds_interface : Known → StatementPart ℕ → Bool
binds_interface known (Call callee bindings) = places_from 0 bindings && each_bound (λ b d. true) bindings
    (slice_get known.interfaces callee.name)
binds_interface known _ = true

-- ---- names

abbrev pub names_differ : List (List ℕ) → Bool
names_differ [] = true
names_differ (n ∷ ns) = not (list_any (bytes_eq n) ns) && names_differ ns

abbrev pub declares_once : Part ℕ → Bool
declares_once (top.Module m) = names_differ (map (λ (d : InterfaceNode). d.signal.name) m.interface)
declares_once (top.Body b) = names_differ (map (λ (p : ParameterNode). p.name) b.parameters)
declares_once (top.Host h) = true

abbrev pub locals_differ : StatementPart ℕ → Bool
locals_differ (Locals signals) = names_differ (map (λ (s : SignalNode). s.name) signals)
locals_differ _ = true

-- no name stands twice among modules, among bodies and hosts, in an interface, in a `signal` list or in a
-- parameter list
abbrev pub all_names_differ : List (Part ℕ) → Bool
all_names_differ parts =
    names_differ (map (λ (m : ModuleNode ℕ). m.name) (modules_of parts))
    && names_differ (map (λ (s : Signature). s.name) (signatures_of parts))
    && list_all declares_once parts && in_each_part (λ known p. locals_differ p.part) parts

-- ---- limits

-- at most 1,024 leaves and operators
abbrev pub is_small : ExprAt ℕ → Bool
is_small x = nat_le (leaves_and_operators (expression_of x.expr)) EXPRESSION_LIMIT

-- a `count` is 1 at least
abbrev pub counts : StatementPart ℕ → Bool
counts (Times n) = nat_le 1 n && nat_le n COUNT_LIMIT
counts _ = true

abbrev pub is_limited : StatementPart ℕ → Bool
is_limited part = counts part && list_all is_small (expressions_of part)

-- parameters and the answers of bodies are valued, and interface signals have a direction of an interface
abbrev pub is_formed : Part ℕ → Bool
is_formed (top.Module m) = list_all (λ (d : InterfaceNode). is_interface d.dir) m.interface
is_formed (top.Body b) = list_all (λ (p : ParameterNode). is_valued p.kind) b.parameters
    && is_valued b.answer && is_small b.expr
is_formed (top.Host h) = list_all is_valued h.parameters

-- ---- the whole

pub record IsLinked (parts : List (Part ℕ)) : Type 0 where
  -- there is a main module
  pub main : no_more (modules_of parts) ≡ false
  -- each place is there, and is that of its scope; a `break` is inside its trap
  pub scopes : in_each_part is_in_scope parts ≡ true
  -- the kinds of each part fit
  pub kinds : in_each_part (λ known p. kinds_fit known p.part) parts ≡ true
  -- the kinds of each declaration fit
  pub declarations : list_all declaration_fits parts ≡ true
  -- no `in` signal is emitted
  pub inputs : in_each_part (λ known p. no_input_emitted known p.scope p.part) parts ≡ true
  -- each run binds each signal of the interface, in its order
  pub bindings : in_each_part (λ known p. binds_interface known p.part) parts ≡ true
  -- numbers and sizes are within the limits of a text
  pub limits : in_each_part (λ known p. is_limited p.part) parts ≡ true
  -- declarations have the forms that the grammar gives them
  pub forms : list_all is_formed parts ≡ true
  -- no name is declared twice in one place
  pub names : all_names_differ parts ≡ true
  -- declarations of one position have one name
  pub names_by_position : NamesGoByPosition parts
