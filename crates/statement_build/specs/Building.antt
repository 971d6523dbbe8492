-- What the code holds while it writes an expansion out. (This project's own.)
use Rattle.std.specs.Prelude.{Some, List, [], ◌∷◌, map}
use Rattle.hh_base.specs.declared.value.Dir.{Dir}
use Rattle.module_tree.specs.declared.source.SignalNode.{SignalNode}
use Rattle.hh_term.specs.declared.program.SignalDecl.{SignalDecl}
use Rattle.hh_term.specs.Views.{site_of}
use Rattle.statement_build.specs.declared.around.Around.{Around}
use Rattle.statement_build.specs.declared.builder.Builder.{Builder}
use Rattle.kernel_expand.specs.Numbering as numbers
use Rattle.kernel_expand.specs.Numbering.{Numbered, first_or_default, with_place, local_signal}

abbrev pub numbered_of : Builder → Numbered
numbered_of b =
    record {
      signals = b.signals.items;
      sites = map site_of b.sites.items;
      places = b.places.items;
      traps = b.traps;
    }

-- what stands round a statement
abbrev pub around_of : Around → numbers.Around
around_of a = record { traps = a.traps.items; counter = a.counter }

-- a declaration of the text as a signal of this direction
abbrev pub declared : Dir → SignalNode → SignalDecl
declared dir d =
    record {
      name = Some d.name;
      dir = dir;
      kind = d.kind;
      first = first_or_default d.kind d.first;
      combine = d.combine;
      pos = d.pos;
    }

-- what is numbered behind a list of local signals
abbrev pub declared_all : List SignalNode → Numbered → Numbered
declared_all [] n = n
declared_all (d ∷ ds) n = declared_all ds (with_place (local_signal d) n)
