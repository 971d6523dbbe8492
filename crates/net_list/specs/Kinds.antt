-- Kinds fit in each line of nets, and names do. (This project's own.)
use Rattle.std.specs.Prelude.{◌≡◌, ◌≢◌, ℕ, ◌&&◌, Bool, true, false, not, Option, Some, None, List, [], ◌∷◌}
use Rattle.std.specs.Prelude.{slice_get}
use Rattle.std.specs.List.{list_all}
use Rattle.hh_base.specs.declared.value.Kind.{Kind}
use Rattle.hh_base.specs.declared.value.Kind.TheVariants.{Pure, Int, Bool as Truth, Text}
use Rattle.hh_base.specs.declared.value.CombineWord.{CombineWord}
use Rattle.hh_base.specs.declared.value.Dir.{Dir}
use Rattle.hh_base.specs.Value.{kind_of, is_interface}
use Rattle.host_expr.specs.declared.expr.Expr.{Expr}
use Rattle.host_expr.specs.Expression.{Expression, Arg, Choose, expression_of}
use Rattle.host_expr.specs.Kinds.{kind_of_expression}
use Rattle.hh_term.specs.declared.program.SignalDecl.{SignalDecl}
use Rattle.hh_term.specs.declared.program.BodyDecl.{BodyDecl}
use Rattle.hh_term.specs.Fits.{kind_of_word}
use Rattle.hh_term.specs.Pairs.{EachPair}
use Rattle.net_list.specs.declared.record.Sent.{Sent}
use Rattle.net_list.specs.declared.record.Sent.TheVariants as sent
use Rattle.net_list.specs.declared.record.NetSignal.{NetSignal}
use Rattle.net_list.specs.declared.record.NetTest.{NetTest}
use Rattle.net_list.specs.declared.record.NetEmit.{NetEmit}
use Rattle.net_list.specs.declared.record.NetExec.{NetExec}
use Rattle.net_list.specs.declared.record.NetRecords.{NetRecords}
use Rattle.net_list.specs.Lookup.{kinds_of, body_of, answer_kind}

abbrev pub same_kind : Kind → Kind → Bool
same_kind Pure Pure = true
same_kind Int Int = true
same_kind Truth Truth = true
same_kind Text Text = true
same_kind _ _ = false

-- what has a kind has this one
abbrev pub is_kind : Kind → Option Kind → Bool
is_kind k (Some l) = same_kind k l
is_kind k None = false

abbrev pub word_fits : Kind → Option CombineWord → Bool
word_fits k (Some w) = same_kind k (kind_of_word w)
word_fits k None = true

-- only a pure local signal may have no name
abbrev pub name_fits : Kind → Dir → Option (List ℕ) → Bool
name_fits k dir (Some name) = true
name_fits k dir None = same_kind k Pure && not (is_interface dir)

abbrev pub declaration_fits : SignalDecl → Bool
declaration_fits d =
    same_kind d.kind (kind_of d.first) && word_fits d.kind d.combine && name_fits d.kind d.dir d.name

abbrev pub signal_fits : NetSignal → Bool
signal_fits s = declaration_fits s.decl

-- an expression whose value is that of a pure parameter
abbrev pub is_pure_parameter : List Kind → Expression → Bool
is_pure_parameter params (Arg n) = is_kind Pure (slice_get params n)
is_pure_parameter params (Choose a b c) =
    is_kind Truth (kind_of_expression [] params a) && is_pure_parameter params b && is_pure_parameter params c
is_pure_parameter params e = false

-- the expression of a body has the kind of its answers
abbrev pub answers_kind : Kind → List Kind → Expression → Bool
answers_kind Pure params e = is_pure_parameter params e
answers_kind k params e = is_kind k (kind_of_expression [] params e)

abbrev pub expression_answers : Kind → List Kind → Option (Expr ℕ) → Bool
expression_answers k params (Some e) = answers_kind k params (expression_of e)
expression_answers k params None = true

abbrev pub body_fits : BodyDecl → Bool
body_fits b = expression_answers b.answer b.params b.expr

-- an expression of a line over signals of these kinds
abbrev pub line_has_kind : List Kind → Kind → Expr ℕ → Bool
line_has_kind kinds k e = is_kind k (kind_of_expression kinds [] (expression_of e))

abbrev pub test_fits : List Kind → NetTest → Bool
test_fits kinds t = line_has_kind kinds Truth t.expr

-- what is sent to a signal of this kind
abbrev pub sent_fits : NetRecords → List Kind → Kind → Sent → Bool
sent_fits N kinds k sent.Nothing = same_kind k Pure
sent_fits N kinds k (sent.Computed e) = line_has_kind kinds k e
sent_fits N kinds k (sent.Answer x) = is_kind k (answer_kind N x)

abbrev pub emit_fits : NetRecords → List Kind → NetEmit → Bool
emit_fits N kinds e = (elim (slice_get kinds e.signal) [ Some k ↦ sent_fits N kinds k e.sent | None ↦ false ])

-- as many arguments as parameters, and of their kinds
abbrev pub arguments_fit : List Kind → List Kind → List (Expr ℕ) → Bool
arguments_fit kinds [] [] = true
arguments_fit kinds (k ∷ params) (e ∷ args) = line_has_kind kinds k e && arguments_fit kinds params args
arguments_fit kinds _ _ = false

abbrev pub exec_fits : NetRecords → List Kind → NetExec → Bool
exec_fits N kinds e =
    (elim (body_of N e) [ Some b ↦ arguments_fit kinds b.params e.site.args | None ↦ false ])

-- two signals of the interface have two names
abbrev pub NamesDiffer : NetSignal → NetSignal → Type 0
NamesDiffer s t =
    is_interface s.decl.dir ≡ true → is_interface t.decl.dir ≡ true → s.decl.name ≢ t.decl.name

pub record AllFit (N : NetRecords) : Type 0 where
  pub signals : list_all signal_fits N.signals ≡ true
  pub bodies : list_all body_fits N.bodies ≡ true
  pub tests : list_all (test_fits (kinds_of N)) N.tests ≡ true
  pub emits : list_all (emit_fits N (kinds_of N)) N.emits ≡ true
  pub execs : list_all (exec_fits N (kinds_of N)) N.execs ≡ true

pub record KindsFit (N : NetRecords) : Type 0 where
  pub each : AllFit N
  pub names_differ : EachPair NamesDiffer N.signals
