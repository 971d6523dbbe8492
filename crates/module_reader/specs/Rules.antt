-- The grammar of the module text: each production stands over its rule, in the notation of docs/LANGUAGE.md.
-- The number `room` says how many brackets may still be opened. This project's own, after HipHop.js.
use Rattle.std.specs.Prelude.{◌≡◌, ℕ, zero, suc, ◌^◌, pos, neg_ℤ, Bool, true, false, List, ◌∷◌, Option}
use Rattle.hh_base.specs.declared.value.Kind.{Kind}
use Rattle.hh_base.specs.declared.value.Kind.TheVariants as kinds
use Rattle.hh_base.specs.declared.value.Value.{Value}
use Rattle.hh_base.specs.declared.value.Value.TheVariants as value
use Rattle.hh_base.specs.declared.value.CombineWord.{CombineWord}
use Rattle.hh_base.specs.declared.value.CombineWord.TheVariants as combine
use Rattle.hh_base.specs.declared.keyword.Keyword.{Keyword}
use Rattle.hh_base.specs.declared.keyword.Keyword.TheVariants as word
use Rattle.module_token.specs.declared.punct.Punct.TheVariants as mark
use Rattle.hh_base.specs.declared.value.Dir.{Dir}
use Rattle.hh_base.specs.declared.value.Dir.TheVariants as dir
use Rattle.module_tree.specs.declared.limits.TheConstants.{COUNT_LIMIT}
use Rattle.module_tree.specs.declared.source.NameAt.{NameAt}
use Rattle.module_tree.specs.declared.source.ExprAt.{ExprAt}
use Rattle.module_tree.specs.declared.source.ParameterNode.{ParameterNode}
use Rattle.module_tree.specs.declared.source.SignalNode.{SignalNode}
use Rattle.module_tree.specs.declared.source.InterfaceNode.{InterfaceNode}
use Rattle.module_tree.specs.declared.source.BlockNode.{BlockNode}
use Rattle.module_tree.specs.declared.source.StatementNode.{StatementNode}
use Rattle.module_tree.specs.declared.source.Statement.{Statement}
use Rattle.module_tree.specs.declared.source.Statement.TheVariants as node
use Rattle.module_tree.specs.declared.source.Delay.{Delay}
use Rattle.module_tree.specs.declared.source.Delay.TheVariants as delays
use Rattle.module_tree.specs.declared.source.Later.{Later}
use Rattle.module_tree.specs.declared.source.Later.TheVariants as laters
use Rattle.module_tree.specs.declared.source.Binding.{Binding}
use Rattle.module_tree.specs.declared.source.Part.{Part}
use Rattle.module_tree.specs.declared.source.Part.TheVariants as part_of
use Rattle.grammar.specs.Language as language
use Rattle.grammar.specs.Language.{◌>>=◌, ◌>>◌, pure, ◌or◌, many, nothing}
use Rattle.expression_reader.specs.declared.terminal.Terminal.{Terminal}
use Rattle.expression_reader.specs.declared.terminal.Terminal.TheVariants as terminal
use Rattle.expression_reader.specs.Trees.{Name, pos_at}
use Rattle.expression_reader.specs.Rules.{Lang, keyword, punct, name, quoted, named, number, optional, listed}
use Rattle.expression_reader.specs.Rules.{listed_or_none, in_round, in_curly, largest, outermost, test}
use Rattle.expression_reader.specs.Rules.{arguments}
use Rattle.module_reader.specs.Trees.{statement_at, block_at, nested, has_module}

-- ---- declarations

-- the word, and the kind that it names
abbrev pub kind_by : Keyword → Kind → Lang Kind
kind_by name what = do
  keyword name
  pure what

-- valued : "int" | "bool" | "text"
abbrev pub valued : Lang Kind
valued = kind_by word.Int kinds.Int or kind_by word.Bool kinds.Bool or kind_by word.Text kinds.Text

-- kind : "pure" | valued
abbrev pub kind : Lang Kind
kind = kind_by word.Pure kinds.Pure or valued

-- "true" | "false", by the word
abbrev pub literal_by : Keyword → Bool → Lang Value
literal_by name truth = do
  keyword name
  pure (value.Bool truth)

-- TEXT
abbrev pub literal_text : Lang Value
literal_text = do
  written ← quoted
  pure (value.Text written.1)

-- NUMBER
abbrev pub literal_number : Lang Value
literal_number = do
  written ← number 0 largest
  pure (value.Int (pos written.1))

-- "-" NUMBER
abbrev pub literal_negative : Lang Value
literal_negative = do
  punct mark.Minus
  written ← number 0 (2 ^ 63)
  pure (value.Int (neg_ℤ (pos written.1)))

-- literal : "true" | "false" | TEXT | NUMBER | "-" NUMBER
abbrev pub literal : Lang Value
literal =
    literal_by word.True true or literal_by word.False false or literal_text
    or literal_number or literal_negative

-- ":" kind
abbrev pub behind_colon : Lang Kind
behind_colon = do
  punct mark.Colon
  kind

-- "=" literal
abbrev pub behind_equal : Lang Value
behind_equal = do
  punct mark.Equal
  literal

-- the word, and how it combines
abbrev pub combine_by : Terminal → CombineWord → Lang CombineWord
combine_by name what = do
  language.token name
  pure what

-- combiner : "plus" | "min" | "max" | "and" | "or"
abbrev pub combine_word : Lang CombineWord
combine_word =
    combine_by terminal.Plus combine.Plus or combine_by terminal.Min combine.Min
    or combine_by terminal.Max combine.Max or combine_by terminal.And combine.And
    or combine_by terminal.Or combine.Or

-- "combine" combiner
abbrev pub behind_combine : Lang CombineWord
behind_combine = do
  keyword word.Combine
  combine_word

-- signal : NAME (":" kind)? ("=" literal)? ("combine" combiner)?
-- A signal without a kind is pure.
abbrev pub signal : Lang SignalNode
signal = do
  declared ← name
  typed ← behind_colon or pure kinds.Pure
  first ← optional behind_equal
  combined ← optional behind_combine
  pure (record {
    pos = pos_at declared.0;
    name = declared.1;
    kind = typed;
    first = first;
    combine = combined;
  })

-- the word, and the direction that it names
abbrev pub dir_by : Keyword → Dir → Lang Dir
dir_by name what = do
  keyword name
  pure what

-- "in" | "out" | "inout"
abbrev pub direction : Lang Dir
direction = dir_by word.In dir.Input or dir_by word.Out dir.Output or dir_by word.Inout dir.Both

-- interface : ("in" | "out" | "inout") signal
abbrev pub interface : Lang InterfaceNode
interface = do
  way ← direction
  signal ← signal
  pure (record { dir = way; signal = signal })

-- parameter : NAME ":" valued
abbrev pub parameter : Lang ParameterNode
parameter = do
  declared ← name
  punct mark.Colon
  typed ← valued
  pure (record { pos = pos_at declared.0; name = declared.1; kind = typed })

-- ---- delays

-- test
abbrev pub once : ℕ → Lang (Later Name)
once room = do
  test ← test room
  pure (laters.Once test)

-- NUMBER "," expression
abbrev pub times : ℕ → Lang (ℕ × ExprAt Name)
times room = do
  written ← number 1 COUNT_LIMIT
  punct mark.Comma
  test ← outermost room
  pure (written.1, test)

-- "count" "(" NUMBER "," expression ")"
abbrev pub count : ℕ → Lang (Later Name)
count room = do
  keyword word.Count
  counted ← in_round times room
  pure (laters.Count counted.0 counted.1)

-- later : test | "count" "(" NUMBER "," expression ")"
abbrev pub later : ℕ → Lang (Later Name)
later room = once room or count room

-- later
abbrev pub later_delay : ℕ → Lang (Delay Name)
later_delay room = do
  waited ← later room
  pure (delays.Later waited)

-- "immediate" test
abbrev pub immediate : ℕ → Lang (Delay Name)
immediate room = do
  keyword word.Immediate
  test ← test room
  pure (delays.Immediate test)

-- delay : "immediate" test | later
abbrev pub delay : ℕ → Lang (Delay Name)
delay room = immediate room or later_delay room

-- ---- statements, by their blocks

-- "nothing" ";" | "pause" ";" | "halt" ";", by the word
abbrev pub simple : Keyword → Statement Name → Lang (StatementNode Name)
simple name what = do
  place ← keyword name
  punct mark.Semicolon
  pure (statement_at place what)

-- NAME value? ";"
abbrev pub emission : ℕ → Lang (NameAt Name × Option (ExprAt Name))
emission room = do
  signal ← named
  emitted ← optional (test room)
  punct mark.Semicolon
  pure (signal, emitted)

-- "emit" NAME value? ";"
abbrev pub emit : ℕ → Lang (StatementNode Name)
emit room = do
  place ← keyword word.Emit
  emitted ← emission room
  pure (statement_at place (node.Emit emitted.0 emitted.1))

-- "sustain" NAME value? ";"
abbrev pub sustain : ℕ → Lang (StatementNode Name)
sustain room = do
  place ← keyword word.Sustain
  emitted ← emission room
  pure (statement_at place (node.Sustain emitted.0 emitted.1))

-- "else" block
abbrev pub behind_else : Lang (BlockNode Name) → Lang (BlockNode Name)
behind_else block = do
  keyword word.Else
  block

-- "if" test block ("else" block)?
abbrev pub if_else : Lang (BlockNode Name) → ℕ → Lang (StatementNode Name)
if_else block room = do
  place ← keyword word.If
  test ← test room
  first ← block
  second ← optional (behind_else block)
  pure (statement_at place (node.If test first second))

-- "loop" block
abbrev pub loop : Lang (BlockNode Name) → Lang (StatementNode Name)
loop block = do
  place ← keyword word.Loop
  repeated ← block
  pure (statement_at place (node.Loop repeated))

-- "par" block
abbrev pub behind_par : Lang (BlockNode Name) → Lang (BlockNode Name)
behind_par block = do
  keyword word.Par
  block

-- block ("par" block)*
abbrev pub par_blocks : Lang (BlockNode Name) → Lang (List (BlockNode Name))
par_blocks block = do
  first ← block
  others ← many (behind_par block)
  pure (first ∷ others)

-- "fork" block ("par" block)*
abbrev pub fork : Lang (BlockNode Name) → Lang (StatementNode Name)
fork block = do
  place ← keyword word.Fork
  branches ← par_blocks block
  pure (statement_at place (node.Fork branches))

-- block
abbrev pub nested_block : Lang (BlockNode Name) → Lang (StatementNode Name)
nested_block block = do
  inner ← block
  pure (nested inner)

-- "await" delay ";"
abbrev pub await : ℕ → Lang (StatementNode Name)
await room = do
  place ← keyword word.Await
  waited ← delay room
  punct mark.Semicolon
  pure (statement_at place (node.Await waited))

-- "every" delay block
abbrev pub every : Lang (BlockNode Name) → ℕ → Lang (StatementNode Name)
every block room = do
  place ← keyword word.Every
  waited ← delay room
  repeated ← block
  pure (statement_at place (node.Every waited repeated))

-- "do" block "every" later ";"
abbrev pub do_every : Lang (BlockNode Name) → ℕ → Lang (StatementNode Name)
do_every block room = do
  place ← keyword word.Do
  repeated ← block
  keyword word.Every
  waited ← later room
  punct mark.Semicolon
  pure (statement_at place (node.DoEvery repeated waited))

-- "abort" delay block
abbrev pub abort : Lang (BlockNode Name) → ℕ → Lang (StatementNode Name)
abort block room = do
  place ← keyword word.Abort
  waited ← delay room
  aborted ← block
  pure (statement_at place (node.Abort waited aborted))

-- "weakabort" delay block
abbrev pub weak_abort : Lang (BlockNode Name) → ℕ → Lang (StatementNode Name)
weak_abort block room = do
  place ← keyword word.WeakAbort
  waited ← delay room
  aborted ← block
  pure (statement_at place (node.WeakAbort waited aborted))

-- "immediate"?
abbrev pub has_immediate : Lang Bool
has_immediate = (do keyword word.Immediate; pure true) or pure false

-- "suspend" "immediate"? test block
abbrev pub suspend : Lang (BlockNode Name) → ℕ → Lang (StatementNode Name)
suspend block room = do
  place ← keyword word.Suspend
  at_once ← has_immediate
  test ← test room
  suspended ← block
  pure (statement_at place (node.Suspend at_once test suspended))

-- "signal" list(signal) block
abbrev pub local : Lang (BlockNode Name) → Lang (StatementNode Name)
local block = do
  place ← keyword word.Signal
  signals ← listed signal
  scope ← block
  pure (statement_at place (node.Signal signals scope))

-- "trap" NAME block
abbrev pub trap : Lang (BlockNode Name) → Lang (StatementNode Name)
trap block = do
  place ← keyword word.Trap
  declared ← name
  scope ← block
  pure (statement_at place (node.Trap declared.1 scope))

-- "break" NAME ";"
abbrev pub break_out : Lang (StatementNode Name)
break_out = do
  place ← keyword word.Break
  left ← named
  punct mark.Semicolon
  pure (statement_at place (node.Break left))

-- binding : NAME "=" NAME
abbrev pub binding : Lang (Binding Name)
binding = do
  inner ← named
  punct mark.Equal
  outer ← named
  pure (record { left = inner; right = outer })

-- list(binding)?
abbrev pub bindings : ℕ → Lang (List (Binding Name))
bindings left = listed_or_none binding

-- "run" NAME "(" list(binding)? ")" ";"
abbrev pub run : ℕ → Lang (StatementNode Name)
run room = do
  place ← keyword word.Run
  called ← named
  bound ← in_round bindings room
  punct mark.Semicolon
  pure (statement_at place (node.Run called bound))

-- NAME
abbrev pub result : ℕ → Lang (NameAt Name)
result left = named

-- "kill" TEXT | "suspend" TEXT | "resume" TEXT, by the word
abbrev pub handler : Keyword → Lang Name
handler name = do
  keyword name
  written ← quoted
  pure written.1

-- "async" ("(" NAME ")")? "call" NAME "(" list(expression)? ")"
--   ("kill" TEXT)? ("suspend" TEXT)? ("resume" TEXT)? ";"
abbrev pub async : ℕ → Lang (StatementNode Name)
async room = do
  place ← keyword word.Async
  signal ← optional (in_round result room)
  keyword word.Call
  called ← named
  given ← in_round arguments room
  killed ← optional (handler word.Kill)
  suspended ← optional (handler word.Suspend)
  resumed ← optional (handler word.Resume)
  punct mark.Semicolon
  pure (statement_at place
      (node.Async (record {
        signal = signal;
        body = called;
        args = given;
        kill = killed;
        suspend = suspended;
        resume = resumed;
      })))

-- statement : one of these
abbrev pub statement : Lang (BlockNode Name) → ℕ → Lang (StatementNode Name)
statement block room =
    simple word.Nothing node.Nothing or simple word.Pause node.Pause or simple word.Halt node.Halt
    or emit room or sustain room
    or if_else block room
    or loop block or fork block
    or await room or every block room or do_every block room
    or abort block room or weak_abort block room
    or suspend block room
    or local block
    or trap block or break_out
    or run room or async room
    or nested_block block

-- block : "{" statement* "}"
abbrev pub block : ℕ → Lang (BlockNode Name)
block zero = nothing
block (suc room) = language.opened (suc room) (terminal.Punct mark.LeftBrace)
    (λ left place.
    do inner ← many (statement (block room) room); punct mark.RightBrace; pure (block_at place inner))

-- ---- texts. No bracket is open before the lists of their declarations, so there is always room for one.

-- body : "body" NAME "(" list(parameter)? ")" ":" valued "{" expression "}"
abbrev pub body : ℕ → Lang (Part Name)
body room = do
  keyword word.Body
  declared ← name
  punct mark.LeftParen
  parameters ← listed_or_none parameter
  punct mark.RightParen
  punct mark.Colon
  answer ← valued
  expression ← in_curly outermost room
  pure (part_of.Body (record {
    pos = pos_at declared.0;
    name = declared.1;
    parameters = parameters;
    answer = answer;
    expr = expression;
  }))

-- host : "host" NAME "(" list(valued)? ")" ":" kind ";"
abbrev pub host : Lang (Part Name)
host = do
  token ← keyword word.Host
  declared ← name
  punct mark.LeftParen
  parameters ← listed_or_none valued
  punct mark.RightParen
  punct mark.Colon
  answer ← kind
  punct mark.Semicolon
  pure (part_of.Host (record {
    pos = pos_at declared.0;
    token = pos_at token;
    name = declared.1;
    parameters = parameters;
    answer = answer;
  }))

-- module : "module" NAME "(" list(interface)? ")" block
abbrev pub module_of : ℕ → Lang (Part Name)
module_of room = do
  keyword word.Module
  declared ← name
  punct mark.LeftParen
  interface ← listed_or_none interface
  punct mark.RightParen
  statements ← block room
  pure (part_of.Module (record {
    pos = pos_at declared.0;
    name = declared.1;
    interface = interface;
    block = statements;
  }))

-- part : module | body | host
abbrev pub part : ℕ → Lang (Part Name)
part room = body room or host or module_of room

-- part*, of which none need be a module
abbrev pub parts : ℕ → Lang (List (Part Name))
parts room = many (part room)

-- program : part*, of which one at least is a module
abbrev pub program : ℕ → Lang (List (Part Name))
program room tree text marks = parts room tree text marks × (has_module tree ≡ true)
