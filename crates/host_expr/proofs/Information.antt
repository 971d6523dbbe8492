-- The order of information is reflexive, and what is known stays the same.
use Rattle.std.proofs.Common.{◌≡◌, refl, true}
use Rattle.hh_base.specs.declared.value.Tri.{Tri}
use Rattle.hh_base.specs.declared.value.Tri.TheVariants.{Unknown, Zero, One}
use Rattle.host_expr.specs.declared.cell.Cell.{Cell}
use Rattle.host_expr.specs.declared.cell.Cell.TheVariants as cell
use Rattle.host_expr.specs.declared.cell.SigCell.{SigCell}
use Rattle.host_expr.specs.Environment.{Env, is_decided, is_known}
use Rattle.host_expr.specs.Knows.{TriBelow, CellBelow, SignalBelow, EnvBelow}

pub tri_refl : (x : Tri) → TriBelow x x
tri_refl Unknown = tt
tri_refl Zero = refl
tri_refl One = refl

pub cell_refl : (c : Cell) → CellBelow c c
cell_refl cell.Unknown = tt
cell_refl (cell.Known v) = refl
cell_refl (cell.Faulted p k) = refl

pub signal_refl : (c : SigCell) → SignalBelow c c
signal_refl c = record { status = tri_refl c.status; value = cell_refl c.value; pre = refl; preval = refl }

pub env_refl : (E : Env) → EnvBelow E E
env_refl E = record { at = λ s. signal_refl (E s) }

pub decided_same : (x y : Tri) → TriBelow x y → is_decided x ≡ true → y ≡ x
decided_same Unknown y h e = cc
decided_same Zero y h e = h
decided_same One y h e = h

pub known_same : (c d : Cell) → CellBelow c d → is_known c ≡ true → d ≡ c
known_same cell.Unknown d h e = cc
known_same (cell.Known v) d h e = h
known_same (cell.Faulted p k) d h e = h
