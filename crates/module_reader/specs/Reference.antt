-- A bridge from the code to the grammar, and no part of a promise of `read` but one (`by_rule`): what each
-- reading function does, rule by rule of Rules. It chooses by the next token, within the limits, and the laws
-- of proofs/ say that it reads what its rule says, or refuses it with the first fault. This project's own.
use Rattle.std.specs.Prelude.{ℕ, zero, suc, ◌^◌, ◌||◌, pos, neg_ℤ, Bool, true, false, List, ◌∷◌, Option, Some}
use Rattle.hh_base.specs.declared.value.Kind.{Kind}
use Rattle.hh_base.specs.declared.value.Kind.TheVariants as kinds
use Rattle.hh_base.specs.declared.value.Value.{Value}
use Rattle.hh_base.specs.declared.value.Value.TheVariants as value
use Rattle.hh_base.specs.declared.value.CombineWord.{CombineWord}
use Rattle.hh_base.specs.declared.value.CombineWord.TheVariants as combine
use Rattle.hh_base.specs.declared.keyword.Keyword.{Keyword}
use Rattle.hh_base.specs.declared.keyword.Keyword.TheVariants as word
use Rattle.module_token.specs.declared.punct.Punct.TheVariants as mark
use Rattle.hh_base.specs.declared.value.Dir.{Dir}
use Rattle.hh_base.specs.declared.value.Dir.TheVariants as dir
use Rattle.module_tree.specs.declared.source.NameAt.{NameAt}
use Rattle.module_tree.specs.declared.source.ExprAt.{ExprAt}
use Rattle.module_tree.specs.declared.source.ParameterNode.{ParameterNode}
use Rattle.module_tree.specs.declared.source.SignalNode.{SignalNode}
use Rattle.module_tree.specs.declared.source.InterfaceNode.{InterfaceNode}
use Rattle.module_tree.specs.declared.source.BlockNode.{BlockNode}
use Rattle.module_tree.specs.declared.source.StatementNode.{StatementNode}
use Rattle.module_tree.specs.declared.source.Statement.{Statement}
use Rattle.module_tree.specs.declared.source.Statement.TheVariants as node
use Rattle.module_tree.specs.declared.source.Delay.{Delay}
use Rattle.module_tree.specs.declared.source.Delay.TheVariants as delays
use Rattle.module_tree.specs.declared.source.Later.{Later}
use Rattle.module_tree.specs.declared.source.Later.TheVariants as laters
use Rattle.module_tree.specs.declared.source.Binding.{Binding}
use Rattle.module_tree.specs.declared.source.Part.{Part}
use Rattle.module_tree.specs.declared.source.Part.TheVariants as part_of
use Rattle.grammar.specs.Fault.{Unexpected}
use Rattle.grammar.specs.Parser as parser
use Rattle.grammar.specs.Parser.{◌>>=◌, ◌>>◌, pure, if_next, many, closed, take}
use Rattle.expression_reader.specs.declared.terminal.Terminal.{Terminal}
use Rattle.expression_reader.specs.declared.terminal.Terminal.TheVariants as terminal
use Rattle.grammar.specs.Tokens.{is}
use Rattle.expression_reader.specs.Terminals.{symbols, is_keyword, is_punct, is_in_curly}
use Rattle.expression_reader.specs.Trees.{Name, pos_at}
use Rattle.module_reader.specs.Trees.{statement_at, block_at, nested}
use Rattle.expression_reader.specs.Rules.{is_quoted, is_number, largest}
use Rattle.expression_reader.specs.Reference.{Parser, keyword, punct, name, named, quoted, number, how_often}
use Rattle.expression_reader.specs.Reference.{optional, listed, listed_or_none, in_round, in_curly, outermost}
use Rattle.expression_reader.specs.Reference.{bracketed_test, arguments}

-- ---- declarations

abbrev pub kind_by : Keyword → Kind → Parser Kind
kind_by name what = do
  keyword name
  pure what

unfoldable pub valued : Parser Kind
valued = if_next (is_keyword word.Int) (kind_by word.Int kinds.Int)
    (if_next (is_keyword word.Bool) (kind_by word.Bool kinds.Bool) (kind_by word.Text kinds.Text))

unfoldable pub kind : Parser Kind
kind = if_next (is_keyword word.Pure) (kind_by word.Pure kinds.Pure) valued

abbrev pub literal_by : Keyword → Bool → Parser Value
literal_by name truth = do
  keyword name
  pure (value.Bool truth)

unfoldable pub literal_text : Parser Value
literal_text = do
  written ← quoted
  pure (value.Text written.1)

unfoldable pub literal_number : Parser Value
literal_number = do
  written ← number 0 largest Unexpected
  pure (value.Int (pos written.1))

unfoldable pub literal_negative : Parser Value
literal_negative = do
  punct mark.Minus
  written ← number 0 (2 ^ 63) Unexpected
  pure (value.Int (neg_ℤ (pos written.1)))

unfoldable pub literal : Parser Value
literal =
    if_next (is_keyword word.True) (literal_by word.True true) (
    if_next (is_keyword word.False) (literal_by word.False false) (
    if_next is_quoted literal_text (
    if_next is_number literal_number literal_negative)))

abbrev pub behind_colon : Parser Kind
behind_colon = do
  punct mark.Colon
  kind

abbrev pub behind_equal : Parser Value
behind_equal = do
  punct mark.Equal
  literal

unfoldable pub kind_of_signal : Parser Kind
kind_of_signal = if_next (is_punct mark.Colon) behind_colon (pure kinds.Pure)

unfoldable pub first_value : Parser (Option Value)
first_value = optional (is_punct mark.Equal) behind_equal

abbrev pub combine_by : Terminal → CombineWord → Parser CombineWord
combine_by name what = do
  take symbols name
  pure what

unfoldable pub combine_word : Parser CombineWord
combine_word =
    if_next (is symbols terminal.Plus) (combine_by terminal.Plus combine.Plus) (
    if_next (is symbols terminal.Min) (combine_by terminal.Min combine.Min) (
    if_next (is symbols terminal.Max) (combine_by terminal.Max combine.Max) (
    if_next (is symbols terminal.And) (combine_by terminal.And combine.And) (
    combine_by terminal.Or combine.Or))))

abbrev pub behind_combine : Parser CombineWord
behind_combine = do
  keyword word.Combine
  combine_word

unfoldable pub combining : Parser (Option CombineWord)
combining = optional (is_keyword word.Combine) behind_combine

-- a signal without a type is pure
unfoldable pub signal : Parser SignalNode
signal = do
  declared ← name
  typed ← kind_of_signal
  first ← first_value
  combined ← combining
  pure (record {
    pos = pos_at declared.0;
    name = declared.1;
    kind = typed;
    first = first;
    combine = combined;
  })

abbrev pub dir_by : Keyword → Dir → Parser Dir
dir_by name what = do
  keyword name
  pure what

unfoldable pub direction : Parser Dir
direction = if_next (is_keyword word.In) (dir_by word.In dir.Input)
    (if_next (is_keyword word.Out) (dir_by word.Out dir.Output) (dir_by word.Inout dir.Both))

unfoldable pub interface : Parser InterfaceNode
interface = do
  way ← direction
  signal ← signal
  pure (record { dir = way; signal = signal })

unfoldable pub parameter : Parser ParameterNode
parameter = do
  declared ← name
  punct mark.Colon
  typed ← valued
  pure (record { pos = pos_at declared.0; name = declared.1; kind = typed })

-- ---- delays

unfoldable pub once : ℕ → Parser (Later Name)
once room = do
  test ← bracketed_test room
  pure (laters.Once test)

unfoldable pub times : ℕ → Parser (ℕ × ExprAt Name)
times room = do
  written ← how_often
  punct mark.Comma
  test ← outermost room
  pure (written.1, test)

unfoldable pub count : ℕ → Parser (Later Name)
count room = do
  keyword word.Count
  counted ← in_round times room
  pure (laters.Count counted.0 counted.1)

unfoldable pub later : ℕ → Parser (Later Name)
later room = if_next (is_punct mark.LeftParen) (once room) (count room)

unfoldable pub later_delay : ℕ → Parser (Delay Name)
later_delay room = do
  waited ← later room
  pure (delays.Later waited)

unfoldable pub immediate : ℕ → Parser (Delay Name)
immediate room = do
  keyword word.Immediate
  test ← bracketed_test room
  pure (delays.Immediate test)

unfoldable pub delay : ℕ → Parser (Delay Name)
delay room = if_next (is_keyword word.Immediate) (immediate room) (later_delay room)

-- ---- statements, by their blocks

unfoldable pub simple : Keyword → Statement Name → Parser (StatementNode Name)
simple name what = do
  place ← keyword name
  punct mark.Semicolon
  pure (statement_at place what)

unfoldable pub emitted : ℕ → Parser (Option (ExprAt Name))
emitted room = optional (is_punct mark.LeftParen) (bracketed_test room)

-- what is emitted
unfoldable pub emission : ℕ → Parser (NameAt Name × Option (ExprAt Name))
emission room = do
  signal ← named
  emitted ← emitted room
  punct mark.Semicolon
  pure (signal, emitted)

unfoldable pub emit : ℕ → Parser (StatementNode Name)
emit room = do
  place ← keyword word.Emit
  emitted ← emission room
  pure (statement_at place (node.Emit emitted.0 emitted.1))

unfoldable pub sustain : ℕ → Parser (StatementNode Name)
sustain room = do
  place ← keyword word.Sustain
  emitted ← emission room
  pure (statement_at place (node.Sustain emitted.0 emitted.1))

abbrev pub behind_else : Parser (BlockNode Name) → Parser (BlockNode Name)
behind_else block = do
  keyword word.Else
  block

unfoldable pub otherwise : Parser (BlockNode Name) → Parser (Option (BlockNode Name))
otherwise block = optional (is_keyword word.Else) (behind_else block)

unfoldable pub if_else : Parser (BlockNode Name) → ℕ → Parser (StatementNode Name)
if_else block room = do
  place ← keyword word.If
  test ← bracketed_test room
  first ← block
  second ← otherwise block
  pure (statement_at place (node.If test first second))

unfoldable pub loop_block : Parser (BlockNode Name) → Parser (StatementNode Name)
loop_block block = do
  place ← keyword word.Loop
  repeated ← block
  pure (statement_at place (node.Loop repeated))

unfoldable pub behind_par : Parser (BlockNode Name) → Parser (BlockNode Name)
behind_par block = do
  keyword word.Par
  block

-- the branches of a fork
unfoldable pub par_blocks : Parser (BlockNode Name) → Parser (List (BlockNode Name))
par_blocks block = do
  first ← block
  others ← many (is_keyword word.Par) (behind_par block)
  pure (first ∷ others)

unfoldable pub fork : Parser (BlockNode Name) → Parser (StatementNode Name)
fork block = do
  place ← keyword word.Fork
  branches ← par_blocks block
  pure (statement_at place (node.Fork branches))

unfoldable pub nested_block : Parser (BlockNode Name) → Parser (StatementNode Name)
nested_block block = do
  inner ← block
  pure (nested inner)

unfoldable pub await_delay : ℕ → Parser (StatementNode Name)
await_delay room = do
  place ← keyword word.Await
  waited ← delay room
  punct mark.Semicolon
  pure (statement_at place (node.Await waited))

unfoldable pub every : Parser (BlockNode Name) → ℕ → Parser (StatementNode Name)
every block room = do
  place ← keyword word.Every
  waited ← delay room
  repeated ← block
  pure (statement_at place (node.Every waited repeated))

unfoldable pub do_every : Parser (BlockNode Name) → ℕ → Parser (StatementNode Name)
do_every block room = do
  place ← keyword word.Do
  repeated ← block
  keyword word.Every
  waited ← later room
  punct mark.Semicolon
  pure (statement_at place (node.DoEvery repeated waited))

unfoldable pub abort : Parser (BlockNode Name) → ℕ → Parser (StatementNode Name)
abort block room = do
  place ← keyword word.Abort
  waited ← delay room
  aborted ← block
  pure (statement_at place (node.Abort waited aborted))

unfoldable pub weak_abort : Parser (BlockNode Name) → ℕ → Parser (StatementNode Name)
weak_abort block room = do
  place ← keyword word.WeakAbort
  waited ← delay room
  aborted ← block
  pure (statement_at place (node.WeakAbort waited aborted))

unfoldable pub has_immediate : Parser Bool
has_immediate = if_next (is_keyword word.Immediate) (do keyword word.Immediate; pure true) (pure false)

unfoldable pub suspend : Parser (BlockNode Name) → ℕ → Parser (StatementNode Name)
suspend block room = do
  place ← keyword word.Suspend
  at_once ← has_immediate
  test ← bracketed_test room
  suspended ← block
  pure (statement_at place (node.Suspend at_once test suspended))

unfoldable pub local : Parser (BlockNode Name) → Parser (StatementNode Name)
local block = do
  place ← keyword word.Signal
  signals ← listed signal
  scope ← block
  pure (statement_at place (node.Signal signals scope))

unfoldable pub trap : Parser (BlockNode Name) → Parser (StatementNode Name)
trap block = do
  place ← keyword word.Trap
  declared ← name
  scope ← block
  pure (statement_at place (node.Trap declared.1 scope))

unfoldable pub break_out : Parser (StatementNode Name)
break_out = do
  place ← keyword word.Break
  left ← named
  punct mark.Semicolon
  pure (statement_at place (node.Break left))

unfoldable pub binding : Parser (Binding Name)
binding = do
  inner ← named
  punct mark.Equal
  outer ← named
  pure (record { left = inner; right = outer })

abbrev pub bindings : ℕ → Parser (List (Binding Name))
bindings left = listed_or_none binding

unfoldable pub run : ℕ → Parser (StatementNode Name)
run room = do
  place ← keyword word.Run
  called ← named
  bound ← in_round bindings room
  punct mark.Semicolon
  pure (statement_at place (node.Run called bound))

abbrev pub result : ℕ → Parser (NameAt Name)
result left = named

unfoldable pub async_signal : ℕ → Parser (Option (NameAt Name))
async_signal room = optional (is_punct mark.LeftParen) (in_round result room)

abbrev pub handler : Keyword → Parser Name
handler name = do
  keyword name
  written ← quoted
  pure written.1

unfoldable pub handled : Keyword → Parser (Option Name)
handled word = optional (is_keyword word) (handler word)

unfoldable pub async_call : ℕ → Parser (StatementNode Name)
async_call room = do
  place ← keyword word.Async
  signal ← async_signal room
  keyword word.Call
  called ← named
  given ← in_round arguments room
  killed ← handled word.Kill
  suspended ← handled word.Suspend
  resumed ← handled word.Resume
  punct mark.Semicolon
  pure (statement_at place (node.Async (record {
    signal = signal;
    body = called;
    args = given;
    kill = killed;
    suspend = suspended;
    resume = resumed;
  })))

abbrev pub statement_by : Parser (BlockNode Name) → ℕ → Option Terminal → Parser (StatementNode Name)
statement_by block room (Some (terminal.Keyword word.Nothing)) = simple word.Nothing node.Nothing
statement_by block room (Some (terminal.Keyword word.Pause)) = simple word.Pause node.Pause
statement_by block room (Some (terminal.Keyword word.Halt)) = simple word.Halt node.Halt
statement_by block room (Some (terminal.Keyword word.Emit)) = emit room
statement_by block room (Some (terminal.Keyword word.Sustain)) = sustain room
statement_by block room (Some (terminal.Keyword word.If)) = if_else block room
statement_by block room (Some (terminal.Keyword word.Loop)) = loop_block block
statement_by block room (Some (terminal.Keyword word.Fork)) = fork block
statement_by block room (Some (terminal.Keyword word.Await)) = await_delay room
statement_by block room (Some (terminal.Keyword word.Every)) = every block room
statement_by block room (Some (terminal.Keyword word.Do)) = do_every block room
statement_by block room (Some (terminal.Keyword word.Abort)) = abort block room
statement_by block room (Some (terminal.Keyword word.WeakAbort)) = weak_abort block room
statement_by block room (Some (terminal.Keyword word.Suspend)) = suspend block room
statement_by block room (Some (terminal.Keyword word.Signal)) = local block
statement_by block room (Some (terminal.Keyword word.Trap)) = trap block
statement_by block room (Some (terminal.Keyword word.Break)) = break_out
statement_by block room (Some (terminal.Keyword word.Run)) = run room
statement_by block room (Some (terminal.Keyword word.Async)) = async_call room
statement_by block room _ = nested_block block

unfoldable pub statement : Parser (BlockNode Name) → ℕ → Parser (StatementNode Name)
statement block room = λ i. statement_by block room (parser.kind i) i

-- a block, by its statements
unfoldable pub block_with : (ℕ → Parser (StatementNode Name)) → ℕ → Parser (BlockNode Name)
block_with inner room =
    parser.opened symbols room (terminal.Punct mark.LeftBrace) (λ left place.
    do xs ← many is_in_curly (inner left); punct mark.RightBrace; pure (block_at place xs))

unfoldable pub block : ℕ → Parser (BlockNode Name)
block zero = closed symbols (terminal.Punct mark.LeftBrace)
block (suc room) = block_with (λ left. statement (block room) room) (suc room)

-- ---- texts

unfoldable pub body : ℕ → Parser (Part Name)
body room = do
  keyword word.Body
  declared ← name
  punct mark.LeftParen
  parameters ← listed_or_none parameter
  punct mark.RightParen
  punct mark.Colon
  answer ← valued
  expression ← in_curly outermost room
  pure (part_of.Body (record {
    pos = pos_at declared.0;
    name = declared.1;
    parameters = parameters;
    answer = answer;
    expr = expression;
  }))

unfoldable pub host : Parser (Part Name)
host = do
  token ← keyword word.Host
  declared ← name
  punct mark.LeftParen
  parameters ← listed_or_none valued
  punct mark.RightParen
  punct mark.Colon
  answer ← kind
  punct mark.Semicolon
  pure (part_of.Host (record {
    pos = pos_at declared.0;
    token = pos_at token;
    name = declared.1;
    parameters = parameters;
    answer = answer;
  }))

unfoldable pub module_of : ℕ → Parser (Part Name)
module_of room = do
  keyword word.Module
  declared ← name
  punct mark.LeftParen
  interface ← listed_or_none interface
  punct mark.RightParen
  statements ← block room
  pure (part_of.Module (record {
    pos = pos_at declared.0;
    name = declared.1;
    interface = interface;
    block = statements;
  }))

unfoldable pub part : ℕ → Parser (Part Name)
part room = if_next (is_keyword word.Body) (body room) (if_next (is_keyword word.Host) host (module_of room))

abbrev pub begins_part : Terminal → Bool
begins_part a = is_keyword word.Body a || (is_keyword word.Host a || is_keyword word.Module a)

unfoldable pub parts : ℕ → Parser (List (Part Name))
parts room = many begins_part (part room)
