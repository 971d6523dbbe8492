-- The reading of the lines of signals. A bridge to the reader, and no part of a promise. (This project's
-- own.)
use Rattle.std.specs.Prelude.{ℕ, Bool, true, false, Option, List}
use Rattle.hh_base.specs.declared.value.Kind.{Kind}
use Rattle.hh_base.specs.declared.value.Kind.TheVariants as kind
use Rattle.hh_base.specs.declared.value.Dir.{Dir}
use Rattle.hh_base.specs.declared.value.CombineWord.{CombineWord}
use Rattle.hh_base.specs.declared.value.Value.{Value}
use Rattle.hh_base.specs.declared.value.Value.TheVariants as value
use Rattle.net_list.specs.declared.record.NetSignal.{NetSignal}
use Rattle.net_line.specs.Decoding.{dir_of, kind_of, combine_of}
use Rattle.net_line.specs.Literals.{name_of, first_of}
use Rattle.net_line.specs.GateReading.{number}
use Rattle.net_line.specs.Reading.{Reader, ◌>>=◌, only_if, part_as, word_as, line_end}
use Rattle.net_line.specs.Formed.{first_fits}

abbrev pub signal_of : Dir → Option (List ℕ) → Kind → Value → Option CombineWord → ℕ → ℕ → ℕ → ℕ → NetSignal
signal_of d n k v w pos status pre sel =
    record {
      decl = record { name = n; dir = d; kind = k; first = v; combine = w; pos = record { 0 = pos } };
      status = status;
      pre = pre;
      sel = sel;
    }

abbrev pub signal_row : Reader NetSignal
signal_row =
    word_as dir_of >>= λ d. part_as name_of >>= λ n. part_as kind_of >>= λ k. part_as first_of >>= λ v.
    part_as combine_of >>= λ w. number >>= λ pos. number >>= λ status. number >>= λ pre. number >>= λ sel.
    line_end >>= λ u. only_if (first_fits k v) (signal_of d n k v w pos status pre sel)

-- the signal with this name
abbrev pub named : NetSignal → Option (List ℕ) → NetSignal
named s n = record s { decl = record s.decl { name = n } }
