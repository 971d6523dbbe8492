use Rattle.std.proofs.Common.{◌≡◌, refl, Some, slice_get, arith}
use Rattle.std.specs.Vec.{with_item}
use Rattle.status_table.proofs.Reading.{read_here}
use Rattle.status_rounds.proofs.Taking.{place_level, place_signal, puts_one, put_shape}
use Rattle.status_rounds.proofs.round.put.Goals as goal

pub index_mut-row-requires : goal.index_mut-row-requires
index_mut-row-requires c =
    let h = place_level c.args.table.now c.args.raise.signal c.args.raise.level c.requires in
    omega (arith, h, c.args.table.now.rows.ok)

pub index_mut-requires : goal.index_mut-requires
index_mut-requires c =
    let t = c.args.table.now in
    let r = c.args.raise in
    let row = c.index_mut-row.result.now in
    let h = place_signal t r.signal r.level row c.requires
    (read_here t.rows.items r.level row row (place_level t r.signal r.level c.requires)
    c.index_mut-row.ensures.value refl) in
    omega (arith, h, row.ok)

pub returns-clause-puts : goal.returns-clause-puts
returns-clause-puts c =
    let t = c.args.table.now in
    let r = c.args.raise in
    let row = c.index_mut-row.result.now in
    let row' = with_item row r.signal r.known in
    let here : slice_get t.rows.items r.level ≡ Some row = read_here t.rows.items r.level row row
    (place_level t r.signal r.level c.requires) c.index_mut-row.ensures.value refl in
    puts_one t (record { rows = with_item t.rows r.level row' }) r row row' here refl refl
    (place_signal t r.signal r.level row c.requires here)

pub returns-clause-shape : goal.returns-clause-shape
returns-clause-shape c =
    let t = c.args.table.now in
    let r = c.args.raise in
    let row = c.index_mut-row.result.now in
    let row' = with_item row r.signal r.known in
    put_shape t (record { rows = with_item t.rows r.level row' }) r.level r.signal r.known row row'
    (read_here t.rows.items r.level row row (place_level t r.signal r.level c.requires)
    c.index_mut-row.ensures.value refl) refl refl
