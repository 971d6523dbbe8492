-- What the parts of a module text keep besides their nesting: names that a text can write, lists that are not
-- empty where one part has to stand, and the directions, kinds, values and counts that the grammar has there.
-- This project's own.
use Rattle.std.specs.Prelude.{ℕ, ◌&&◌, Bool, true, false, List, [], ◌∷◌, Option, Some, None, nat_le}
use Rattle.std.specs.List.{list_all}
use Rattle.hh_base.specs.Value.{is_valued, is_interface}
use Rattle.module_tree.specs.declared.limits.TheConstants.{COUNT_LIMIT}
use Rattle.module_tree.specs.declared.source.NameAt.{NameAt}
use Rattle.module_tree.specs.declared.source.ExprAt.{ExprAt}
use Rattle.module_tree.specs.declared.source.SignalNode.{SignalNode}
use Rattle.module_tree.specs.declared.source.InterfaceNode.{InterfaceNode}
use Rattle.module_tree.specs.declared.source.ParameterNode.{ParameterNode}
use Rattle.module_tree.specs.declared.source.Binding.{Binding}
use Rattle.module_tree.specs.declared.source.AsyncNode.{AsyncNode}
use Rattle.module_tree.specs.declared.source.BlockNode.{BlockNode}
use Rattle.module_tree.specs.declared.source.Statement.TheOpen as s
use Rattle.module_tree.specs.declared.source.Statement.TheFolds.{fold-BlockNode}
use Rattle.module_tree.specs.declared.source.Later.{Later}
use Rattle.module_tree.specs.declared.source.Later.TheVariants as plain
use Rattle.module_tree.specs.declared.source.Delay.{Delay}
use Rattle.module_tree.specs.declared.source.Delay.TheVariants as delay
use Rattle.module_tree.specs.declared.source.Part.{Part}
use Rattle.module_tree.specs.declared.source.Part.TheVariants as top
use Rattle.module_tree.specs.SourceWords.{is_written_name, is_written_text, is_written_value}
use Rattle.module_tree.specs.SourceExpressions.{is_written_expression}

abbrev pub is_filled : {A : Type 0} → List A → Bool
is_filled [] = false
is_filled (x ∷ xs) = true

-- the test of what is there, if anything is
abbrev pub if_there : {A : Type 0} → (A → Bool) → Option A → Bool
if_there test None = true
if_there test (Some a) = test a

abbrev pub fits_name : NameAt (List ℕ) → Bool
fits_name n = is_written_name n.name

abbrev pub fits_expression : ExprAt (List ℕ) → Bool
fits_expression x = is_written_expression x.expr

abbrev pub fits_signal : SignalNode → Bool
fits_signal s = is_written_name s.name && if_there is_written_value s.first

abbrev pub fits_interface : InterfaceNode → Bool
fits_interface d = is_interface d.dir && fits_signal d.signal

abbrev pub fits_parameter : ParameterNode → Bool
fits_parameter p = is_written_name p.name && is_valued p.kind

abbrev pub fits_later : Later (List ℕ) → Bool
fits_later (plain.Once x) = fits_expression x
fits_later (plain.Count n x) = nat_le 1 n && nat_le n COUNT_LIMIT && fits_expression x

abbrev pub fits_delay : Delay (List ℕ) → Bool
fits_delay (delay.Later p) = fits_later p
fits_delay (delay.Immediate x) = fits_expression x

abbrev pub fits_binding : Binding (List ℕ) → Bool
fits_binding b = fits_name b.left && fits_name b.right

abbrev pub fits_async : AsyncNode (List ℕ) → Bool
fits_async a =
    if_there fits_name a.signal && fits_name a.body && list_all fits_expression a.args
    && if_there is_written_text a.kill && if_there is_written_text a.suspend
    && if_there is_written_text a.resume

-- by one layer, with what its parts gave in their places
abbrev pub statement_step : s.Statement-F (List ℕ) Bool Bool Bool → Bool
statement_step s.Nothing = true
statement_step s.Pause = true
statement_step s.Halt = true
statement_step (s.Emit n x) = fits_name n && if_there fits_expression x
statement_step (s.Sustain n x) = fits_name n && if_there fits_expression x
statement_step (s.If x b other) = fits_expression x && b && if_there (λ b. b) other
statement_step (s.Loop b) = b
statement_step (s.Fork bs) = is_filled bs && list_all (λ b. b) bs
statement_step (s.Block b) = b
statement_step (s.Await d) = fits_delay d
statement_step (s.Every d b) = fits_delay d && b
statement_step (s.DoEvery b p) = b && fits_later p
statement_step (s.Abort d b) = fits_delay d && b
statement_step (s.WeakAbort d b) = fits_delay d && b
statement_step (s.Suspend immediate x b) = fits_expression x && b
statement_step (s.Signal signals b) = is_filled signals && list_all fits_signal signals && b
statement_step (s.Trap n b) = is_written_name n && b
statement_step (s.Break n) = fits_name n
statement_step (s.Run n bindings) = fits_name n && list_all fits_binding bindings
statement_step (s.Async a) = fits_async a

abbrev pub block_step : s.BlockNode-F (List ℕ) Bool Bool Bool → Bool
block_step b = list_all (λ b. b) b.statements

abbrev pub fits_block : BlockNode (List ℕ) → Bool
fits_block = fold-BlockNode (List ℕ) Bool Bool Bool statement_step block_step (λ n. n.what)

abbrev pub fits_part : Part (List ℕ) → Bool
fits_part (top.Body b) = is_written_name b.name && list_all fits_parameter b.parameters
    && is_valued b.answer && fits_expression b.expr
fits_part (top.Host h) = is_written_name h.name && list_all is_valued h.parameters
fits_part (top.Module m) = is_written_name m.name && list_all fits_interface m.interface && fits_block m.block
