-- What a text has as delays passes the tests of source trees, in which no more brackets are open at once than
-- may be.
use Rattle.std.proofs.Common.{ℕ, Bool}
use Rattle.std.specs.Prelude.{nat_le, ◌&&◌}
use Rattle.std.proofs.lemmas.Bool.{le-leb}
use Rattle.module_tree.specs.declared.source.ExprAt.{ExprAt}
use Rattle.module_tree.specs.SourceForms.{fits_expression, fits_later, fits_delay}
use Rattle.module_tree.specs.SourceNesting.{nesting_of_later, nesting_of_delay}
use Rattle.expression_reader.specs.Trees.{Name}
use Rattle.module_reader.specs.Rules as g
use Rattle.expression_reader.proofs.written.Keeping.{Keeps, keeps, keeps_then, keeps_after, keeps_pure}
use Rattle.expression_reader.proofs.written.Keeping.{keeps_or}
use Rattle.expression_reader.proofs.written.Nodes.{both}
use Rattle.expression_reader.proofs.written.Expressions.{tells_number}
use Rattle.expression_reader.proofs.written.Brackets.{Fits, keeps_round, nesting_at, outermost, tested}

once : (room : ℕ) → Keeps (Fits fits_later nesting_of_later room) (g.once room)
once room = keeps_then (tested room) (λ a h. keeps_pure (record { passes = h.passes; within = h.within }))

fits_times : ℕ × ExprAt Name → Bool
fits_times c = nat_le 1 c.0 && nat_le c.0 64 && fits_expression c.1

times : (room : ℕ) → Keeps (Fits fits_times (λ c. nesting_at c.1) room) (g.times room)
unfolding fits_times
times room =
    keeps_then (keeps (tells_number 1 64)) (λ n h. keeps_after (λ q. keeps_then (outermost room)
    (λ a e. keeps_pure (record {
      passes = both (both (le-leb 1 n.1 h.0) (le-leb n.1 64 h.1)) e.passes;
      within = e.within;
    }))))

count : (room : ℕ) → Keeps (Fits fits_later nesting_of_later room) (g.count room)
unfolding fits_times
count room = keeps_after (λ q. keeps_then (keeps_round times room)
    (λ c h. keeps_pure (record { passes = h.passes; within = h.within })))

pub plain_delay : (room : ℕ) → Keeps (Fits fits_later nesting_of_later room) (g.later room)
plain_delay room = keeps_or (once room) (count room)

plainly : (room : ℕ) → Keeps (Fits fits_delay nesting_of_delay room) (g.later_delay room)
plainly room = keeps_then (plain_delay room) (λ a h. keeps_pure
    (record { passes = h.passes; within = h.within }))

immediate : (room : ℕ) → Keeps (Fits fits_delay nesting_of_delay room) (g.immediate room)
immediate room = keeps_after
    (λ q. keeps_then (tested room) (λ a h. keeps_pure (record { passes = h.passes; within = h.within })))

pub any_delay : (room : ℕ) → Keeps (Fits fits_delay nesting_of_delay room) (g.delay room)
any_delay room = keeps_or (immediate room) (plainly room)
