-- The laws of the reactions of copied programs, as statements. (This project's own; that doubling cures
-- reincarnation is Berry's.)
use Rattle.std.specs.Prelude.{◌≡◌, ℕ, List, length}
use Rattle.hh_base.specs.declared.value.Value.{Value}
use Rattle.hh_term.specs.Kernel.{Kernel}
use Rattle.hh_term.specs.IsProgram.{IsProgram}
use Rattle.hh_term.specs.Selection.{Control, Fresh}
use Rattle.hh_term.specs.Reaction.{Last, Completed, first_lasts, reaction}
use Rattle.loop_copy.specs.Copies.{copied_program}
use Rattle.loop_copy.specs.Stands.{StandsFor}
use Rattle.copied_reaction.specs.Reacting.{CompletesTheSame, GivesTheSameIds, ReactsTheSame}

-- Where the copied control stands for the control, after the same last statuses and values of the interface,
-- to the same inputs and after the same last id, the reactions of the two are the same refusal or complete in
-- this relation.
abbrev pub ReactionsAre : (Kernel → Completed → Completed → Type 0) → Type 0
ReactionsAre R =
    (K : Kernel) → IsProgram K → (c d : Control) → StandsFor K.statement c d → (before : List Last) →
    length before ≡ K.interface → (inputs : List (ℕ × Value)) → (last : ℕ) →
    ReactsTheSame K (R K) (reaction K c before inputs last) (reaction (copied_program K) d before inputs last)

-- A copied program reacts as the program does, and the next controls stand for each other again.
abbrev pub CopiesReactTheSame : Type 0
CopiesReactTheSame = ReactionsAre CompletesTheSame

-- So it does from the start.
abbrev pub CopiesStartTheSame : Type 0
CopiesStartTheSame =
    (K : Kernel) → IsProgram K → (inputs : List (ℕ × Value)) → (last : ℕ) →
    let C = copied_program K in
    ReactsTheSame K (CompletesTheSame K) (reaction K Fresh (first_lasts K) inputs last)
    (reaction C Fresh (first_lasts C) inputs last)

-- The new instances get the same ids.
abbrev pub CopiesGiveTheSameIds : Type 0
CopiesGiveTheSameIds = ReactionsAre GivesTheSameIds
