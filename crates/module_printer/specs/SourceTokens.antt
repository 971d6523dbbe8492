-- The tokens of a module text by its tree, each as its text. This project's own.
use Rattle.std.specs.Prelude.{ℕ, Bool, List, [], ◌∷◌, ◌++◌, codes, map, Option, Some, None, if◌then◌else◌}
use Rattle.std.specs.List.{flat_map}
use Rattle.std.specs.Fmt.{decimal}
use Rattle.hh_base.specs.Literal.{quoted}
use Rattle.hh_base.specs.declared.value.Kind.{Kind}
use Rattle.hh_base.specs.declared.value.Kind.TheVariants as kind
use Rattle.hh_base.specs.declared.value.Value.{Value}
use Rattle.hh_base.specs.declared.value.CombineWord.{CombineWord}
use Rattle.hh_base.specs.declared.value.CombineWord.TheVariants as combine
use Rattle.hh_base.specs.declared.value.Dir.{Dir}
use Rattle.hh_base.specs.declared.value.Dir.TheVariants as dir
use Rattle.module_tree.specs.declared.source.NameAt.{NameAt}
use Rattle.module_tree.specs.declared.source.ExprAt.{ExprAt}
use Rattle.module_tree.specs.declared.source.SignalNode.{SignalNode}
use Rattle.module_tree.specs.declared.source.InterfaceNode.{InterfaceNode}
use Rattle.module_tree.specs.declared.source.ParameterNode.{ParameterNode}
use Rattle.module_tree.specs.declared.source.Binding.{Binding}
use Rattle.module_tree.specs.declared.source.AsyncNode.{AsyncNode}
use Rattle.module_tree.specs.declared.source.BodyNode.{BodyNode}
use Rattle.module_tree.specs.declared.source.HostNode.{HostNode}
use Rattle.module_tree.specs.declared.source.ModuleNode.{ModuleNode}
use Rattle.module_tree.specs.declared.source.BlockNode.{BlockNode}
use Rattle.module_tree.specs.declared.source.StatementNode.{StatementNode}
use Rattle.module_tree.specs.declared.source.Statement.{Statement}
use Rattle.module_tree.specs.declared.source.Statement.TheOpen as s
use Rattle.module_tree.specs.declared.source.Statement.TheFolds.{fold-Statement, fold-StatementNode}
use Rattle.module_tree.specs.declared.source.Statement.TheFolds.{fold-BlockNode}
use Rattle.module_tree.specs.declared.source.Later.{Later}
use Rattle.module_tree.specs.declared.source.Later.TheVariants as plain
use Rattle.module_tree.specs.declared.source.Delay.{Delay}
use Rattle.module_tree.specs.declared.source.Delay.TheVariants as delay
use Rattle.module_tree.specs.declared.source.Part.{Part}
use Rattle.module_tree.specs.declared.source.Part.TheVariants as top
use Rattle.module_printer.specs.ExpressionTokens.{Lexemes, in_parentheses, tokens_of_expression}
use Rattle.module_printer.specs.ExpressionTokens.{tokens_of_value}

-- one after the other
abbrev pub one_after_another : List Lexemes → Lexemes
one_after_another = flat_map (λ ts. ts)

-- the others, each behind a mark
abbrev pub behind : List ℕ → List Lexemes → Lexemes
behind mark = flat_map (λ ts. mark ∷ ts)

-- with a mark between neighbours
abbrev pub separated : List ℕ → List Lexemes → Lexemes
separated mark [] = []
separated mark (ts ∷ others) = ts ++ behind mark others

abbrev pub comma_separated : List Lexemes → Lexemes
comma_separated = separated (codes ",")

-- what is there, if anything is
abbrev pub if_there : {A : Type 0} → (A → Lexemes) → Option A → Lexemes
if_there tokens None = []
if_there tokens (Some a) = tokens a

abbrev pub token_of_kind : Kind → List ℕ
token_of_kind kind.Pure = codes "pure"
token_of_kind kind.Int = codes "int"
token_of_kind kind.Bool = codes "bool"
token_of_kind kind.Text = codes "text"

abbrev pub tokens_of_kind : Kind → Lexemes
tokens_of_kind k = token_of_kind k ∷ []

abbrev pub token_of_combine : CombineWord → List ℕ
token_of_combine combine.Plus = codes "plus"
token_of_combine combine.Min = codes "min"
token_of_combine combine.Max = codes "max"
token_of_combine combine.And = codes "and"
token_of_combine combine.Or = codes "or"

-- local signals have no direction in a text
abbrev pub tokens_of_dir : Dir → Lexemes
tokens_of_dir dir.Input = codes "in" ∷ []
tokens_of_dir dir.Output = codes "out" ∷ []
tokens_of_dir dir.Both = codes "inout" ∷ []
tokens_of_dir dir.Local = []

-- a pure signal is written without its kind
abbrev pub tokens_of_type : Kind → Lexemes
tokens_of_type kind.Pure = []
tokens_of_type k = codes ":" ∷ token_of_kind k ∷ []

abbrev pub tokens_of_first : Value → Lexemes
tokens_of_first v = codes "=" ∷ tokens_of_value v

abbrev pub tokens_of_combine : CombineWord → Lexemes
tokens_of_combine w = codes "combine" ∷ token_of_combine w ∷ []

abbrev pub tokens_of_signal : SignalNode → Lexemes
tokens_of_signal s = s.name ∷ (tokens_of_type s.kind ++ if_there tokens_of_first s.first
    ++ if_there tokens_of_combine s.combine)

abbrev pub tokens_of_interface : InterfaceNode → Lexemes
tokens_of_interface d = tokens_of_dir d.dir ++ tokens_of_signal d.signal

abbrev pub tokens_of_parameter : ParameterNode → Lexemes
tokens_of_parameter p = p.name ∷ codes ":" ∷ token_of_kind p.kind ∷ []

-- an outermost expression
abbrev pub tokens_of_outermost : ExprAt (List ℕ) → Lexemes
tokens_of_outermost x = tokens_of_expression x.expr

abbrev pub tokens_of_test : ExprAt (List ℕ) → Lexemes
tokens_of_test x = in_parentheses (tokens_of_outermost x)

abbrev pub tokens_of_later : Later (List ℕ) → Lexemes
tokens_of_later (plain.Once x) = tokens_of_test x
tokens_of_later (plain.Count n x) = codes "count" ∷ in_parentheses
    (decimal n ∷ codes "," ∷ tokens_of_outermost x)

abbrev pub tokens_of_delay : Delay (List ℕ) → Lexemes
tokens_of_delay (delay.Later p) = tokens_of_later p
tokens_of_delay (delay.Immediate x) = codes "immediate" ∷ tokens_of_test x

abbrev pub tokens_of_binding : Binding (List ℕ) → Lexemes
tokens_of_binding b = b.left.name ∷ codes "=" ∷ b.right.name ∷ []

abbrev pub tokens_of_answer : NameAt (List ℕ) → Lexemes
tokens_of_answer n = in_parentheses (n.name ∷ [])

abbrev pub tokens_of_handler : List ℕ → Option (List ℕ) → Lexemes
tokens_of_handler word = if_there (λ t. word ∷ quoted t ∷ [])

abbrev pub tokens_of_call : AsyncNode (List ℕ) → Lexemes
tokens_of_call a = codes "call" ∷ a.body.name ∷ in_parentheses
    (comma_separated (map tokens_of_outermost a.args))

abbrev pub tokens_of_handlers : AsyncNode (List ℕ) → Lexemes
tokens_of_handlers a = tokens_of_handler (codes "kill") a.kill
    ++ tokens_of_handler (codes "suspend") a.suspend ++ tokens_of_handler (codes "resume") a.resume

abbrev pub tokens_of_async : AsyncNode (List ℕ) → Lexemes
tokens_of_async a = (codes "async" ∷ if_there tokens_of_answer a.signal) ++ tokens_of_call a
    ++ tokens_of_handlers a ++ codes ";" ∷ []

-- `emit` or `sustain`
abbrev pub tokens_of_emission : List ℕ → NameAt (List ℕ) → Option (ExprAt (List ℕ)) → Lexemes
tokens_of_emission word n value = word ∷ n.name ∷ (if_there tokens_of_test value ++ codes ";" ∷ [])

abbrev pub tokens_of_run : NameAt (List ℕ) → List (Binding (List ℕ)) → Lexemes
tokens_of_run n bindings = codes "run" ∷ n.name ∷ (in_parentheses
    (comma_separated (map tokens_of_binding bindings)) ++ codes ";" ∷ [])

abbrev pub immediate_word : Bool → Lexemes
immediate_word immediate = if immediate then codes "immediate" ∷ [] else []

-- by one layer, with the tokens of its parts in their places
abbrev pub statement_step : s.Statement-F (List ℕ) Lexemes Lexemes Lexemes → Lexemes
statement_step s.Nothing = codes "nothing" ∷ codes ";" ∷ []
statement_step s.Pause = codes "pause" ∷ codes ";" ∷ []
statement_step s.Halt = codes "halt" ∷ codes ";" ∷ []
statement_step (s.Emit n value) = tokens_of_emission (codes "emit") n value
statement_step (s.Sustain n value) = tokens_of_emission (codes "sustain") n value
statement_step (s.If x block other) = codes "if" ∷ (tokens_of_test x ++ block)
    ++ if_there (λ ts. codes "else" ∷ ts) other
statement_step (s.Loop block) = codes "loop" ∷ block
statement_step (s.Fork blocks) = codes "fork" ∷ separated (codes "par") blocks
statement_step (s.Block block) = block
statement_step (s.Await d) = codes "await" ∷ (tokens_of_delay d ++ codes ";" ∷ [])
statement_step (s.Every d block) = codes "every" ∷ (tokens_of_delay d ++ block)
statement_step (s.DoEvery block p) = (codes "do" ∷ block) ++ (codes "every" ∷ tokens_of_later p)
    ++ codes ";" ∷ []
statement_step (s.Abort d block) = codes "abort" ∷ (tokens_of_delay d ++ block)
statement_step (s.WeakAbort d block) = codes "weakabort" ∷ (tokens_of_delay d ++ block)
statement_step (s.Suspend immediate x block) = codes "suspend" ∷
    (immediate_word immediate ++ tokens_of_test x ++ block)
statement_step (s.Signal signals block) = codes "signal" ∷ (comma_separated (map tokens_of_signal signals)
    ++ block)
statement_step (s.Trap n block) = codes "trap" ∷ n ∷ block
statement_step (s.Break n) = codes "break" ∷ n.name ∷ codes ";" ∷ []
statement_step (s.Run n bindings) = tokens_of_run n bindings
statement_step (s.Async a) = tokens_of_async a

abbrev pub block_step : s.BlockNode-F (List ℕ) Lexemes Lexemes Lexemes → Lexemes
block_step b = codes "{" ∷ (one_after_another b.statements ++ codes "}" ∷ [])

abbrev pub tokens_of_statement : Statement (List ℕ) → Lexemes
tokens_of_statement = fold-Statement (List ℕ) Lexemes Lexemes Lexemes statement_step block_step (λ n. n.what)

abbrev pub tokens_of_node : StatementNode (List ℕ) → Lexemes
tokens_of_node = fold-StatementNode (List ℕ) Lexemes Lexemes Lexemes statement_step block_step (λ n. n.what)

abbrev pub tokens_of_block : BlockNode (List ℕ) → Lexemes
tokens_of_block = fold-BlockNode (List ℕ) Lexemes Lexemes Lexemes statement_step block_step (λ n. n.what)

-- the word of a declaration, its name and its list
abbrev pub tokens_of_heading : List ℕ → List ℕ → List Lexemes → Lexemes
tokens_of_heading word name items = word ∷ name ∷ in_parentheses (comma_separated items)

abbrev pub tokens_of_body : BodyNode (List ℕ) → Lexemes
tokens_of_body b = tokens_of_heading (codes "body") b.name (map tokens_of_parameter b.parameters)
    ++ (codes ":" ∷ token_of_kind b.answer ∷ []) ++ codes "{" ∷ (tokens_of_outermost b.expr ++ codes "}" ∷ [])

abbrev pub tokens_of_host : HostNode → Lexemes
tokens_of_host h = tokens_of_heading (codes "host") h.name (map tokens_of_kind h.parameters)
    ++ (codes ":" ∷ token_of_kind h.answer ∷ []) ++ codes ";" ∷ []

abbrev pub tokens_of_module : ModuleNode (List ℕ) → Lexemes
tokens_of_module m = tokens_of_heading (codes "module") m.name (map tokens_of_interface m.interface)
    ++ tokens_of_block m.block

abbrev pub tokens_of_part : Part (List ℕ) → Lexemes
tokens_of_part (top.Body b) = tokens_of_body b
tokens_of_part (top.Host h) = tokens_of_host h
tokens_of_part (top.Module m) = tokens_of_module m
