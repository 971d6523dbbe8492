-- What is kept of the emissions of one signal while a round meets them: how many must and can be, whether all
-- that must be are known, and what their values combine to so far. (This project's own.)
use Rattle.std.specs.Prelude.{◌≡◌, Bool, true, false, ◌&&◌, ◌||◌, ◌==◌, Option, Some, None, List, [], ◌∷◌}
use Rattle.std.specs.Prelude.{◌++◌, ℤ, pos, ◌+ℤ◌, length, map, if◌then◌else◌}
use Rattle.std.specs.Int.{int_min, int_max}
use Rattle.hh_base.specs.declared.value.Kind.{Kind}
use Rattle.hh_base.specs.declared.value.Value.{Value}
use Rattle.hh_base.specs.declared.value.Value.TheVariants as value
use Rattle.hh_base.specs.declared.value.CombineWord.{CombineWord}
use Rattle.hh_base.specs.declared.value.CombineWord.TheVariants as word
use Rattle.host_expr.specs.declared.cell.Cell.{Cell}
use Rattle.hh_base.specs.Value.{default_of}
use Rattle.host_expr.specs.Combination.{counts_as, in_range}
use Rattle.hh_term.specs.MustCan.{all_known}
use Rattle.status_table.specs.declared.tally.Running.{Running}
use Rattle.status_table.specs.declared.tally.Running.TheVariants.{Nothing, Single, Sum, Least, Greatest, All}
use Rattle.status_table.specs.declared.tally.Running.TheVariants.{Any, Several}
use Rattle.status_table.specs.declared.tally.Tally.{Tally}

abbrev pub number_of : Value → Option ℤ
number_of (value.Int n) = Some n
number_of _ = None

abbrev pub number_or_zero : Option ℤ → ℤ
number_or_zero (Some n) = n
number_or_zero None = pos 0

abbrev pub sum_with : ℤ → Option ℤ → ℤ
sum_with n (Some m) = n +ℤ m
sum_with n None = n

-- the lesser, the greater of the numbers that there are
abbrev pub lesser : Option ℤ → Option ℤ → Option ℤ
lesser (Some m) (Some n) = Some (int_min m n)
lesser (Some m) None = Some m
lesser None n = n

abbrev pub larger : Option ℤ → Option ℤ → Option ℤ
larger (Some m) (Some n) = Some (int_max m n)
larger (Some m) None = Some m
larger None n = n

abbrev pub both : Bool → Value → Bool
both b (value.Bool c) = b && c
both b _ = b

abbrev pub any : Bool → Value → Bool
any b (value.Bool c) = b || c
any b _ = b

-- one more value
abbrev pub met : Running → Value → Running
met Nothing v = Single v
met (Single u) v = Several
met (Sum n) v = Sum (sum_with n (number_of v))
met (Least n) v = Least (lesser n (number_of v))
met (Greatest n) v = Greatest (larger n (number_of v))
met (All b) v = All (both b v)
met (Any b) v = Any (any b v)
met Several v = Several

-- where a word combines, nothing met so far
abbrev pub unit_of : CombineWord → Running
unit_of word.Plus = Sum (pos 0)
unit_of word.Min = Least None
unit_of word.Max = Greatest None
unit_of word.And = All true
unit_of word.Or = Any false

-- the second value begins the combination by a word
abbrev pub joined : Option CombineWord → Running → Value → Running
joined (Some w) (Single u) v = met (met (unit_of w) u) v
joined _ r v = met r v

abbrev pub joined_all : Option CombineWord → Running → List Value → Running
joined_all w r [] = r
joined_all w r (v ∷ vs) = joined_all w (joined w r v) vs

abbrev pub running_of : Option CombineWord → List Value → Running
running_of w vs = joined_all w Nothing vs

abbrev pub value_of : Kind → Running → Value
value_of k Nothing = default_of k
value_of k (Single v) = v
value_of k (Sum n) = value.Int (if in_range n then n else pos 0)
value_of k (Least n) = value.Int (number_or_zero n)
value_of k (Greatest n) = value.Int (number_or_zero n)
value_of k (All b) = value.Bool b
value_of k (Any b) = value.Bool b
value_of k Several = default_of k

-- the tally of the cells that must be and that can be
abbrev pub tally_of : Kind → Option CombineWord → List Cell → List Cell → Tally
tally_of k w must can = record {
  must = length must;
  can = length can;
  known = all_known must;
  running = running_of w
      (map (counts_as k) must);
}

-- all that can be must be, and is known
abbrev pub is_whole : List Cell → List Cell → Bool
is_whole must can = (length must == length can) && all_known must

-- these cells more
pub record Adds (k : Kind) (w : Option CombineWord) (before after : Tally) (must can : List Cell) : Type 0
  where
    pub adds : (m c : List Cell) → before ≡ tally_of k w m c → after ≡ tally_of k w (m ++ must) (c ++ can)
