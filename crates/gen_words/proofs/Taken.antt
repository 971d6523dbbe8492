-- From what was found for the options to what the words give.
use Rattle.std.proofs.Common.{◌≡◌, ◌∙◌, ◌+◌, ◌≤◌, ℕ, suc, Option, Some, None, Result, Ok, List, [], ◌∷◌, ◌++◌, map, take, ap, sym, subst, add-one, codes, slice_get}
use Rattle.std.specs.Prelude.{IsSomeAnd}
use Rattle.std.specs.Borrow.{Bor}
use Rattle.std.specs.Str.Parse.{ParsesUnsigned}
use Rattle.std.proofs.Math.Seq.{take-suc}
use Rattle.std.proofs.lemmas.List.{map-append}
use Rattle.std.proofs.lemmas.Option.{get_or_from_slice_get, slice_get_within}
use Rattle.clap.specs.Words.{ReadsOne, Text, fault_of, found_of, matches_of, one_of, one_text, rows_of}
use Rattle.clap.specs.declared.parser.matches.ArgMatches.{ArgMatches}
use Rattle.clap.specs.declared.parser.matches.Found.{Found}
use Rattle.clap.proofs.WalkLemmas.{one_text-rows}
use Rattle.gen_words.specs.Options.{HasNumber, IsParse}
use Rattle.gen_words.specs.Words.{Gives, IsOrder, command}

-- what a typed getter reads
pub found_number : (E : Type 0) (G : List ℕ → Result ℕ E → Type 0) (f : Found) (name t : Text) (r : Option ℕ) (n most : ℕ) → r ≡ Some n → n ≤ most
    → one_text f name ≡ Some t → ReadsOne G t r → ((u : List ℕ) (x : Result ℕ E) → G u x → ParsesUnsigned 32 10 u x)
    → IsSomeAnd r (λ k. HasNumber f name k × (k ≤ most))
found_number E G f name t (Some m) n most is few given one only =
    let same : m ≡ n = cc in
    let parsed = only t (Ok m) one in
    (record { text = t; given = given; numeral = parsed.0.0; number_is = parsed.1 }, subst (λ (k : ℕ). k ≤ most) (sym same) few)
found_number E G f name t None n most is few given one only = cc

gives : (f : Found) (words : List Text) (name : Text) (n : ℕ) → rows_of f ≡ matches_of command words → HasNumber f name n → Gives words name n
gives f words name n rows has = record {
  text = has.text;
  given = ap (one_of name) (sym rows) ∙ sym (one_text-rows f name) ∙ has.given;
  numeral = has.numeral;
  number_is = has.number_is;
}

pub order_of : (m : ArgMatches) (list words : List Text) (seed size : ℕ) → IsParse list m → list ≡ words
    → HasNumber (found_of m) (codes "seed") seed → HasNumber (found_of m) (codes "size") size → IsOrder words seed size
order_of m list words seed size parse same has_seed has_size =
    let rows = parse.rows ∙ ap (matches_of command) same in
    record {
      taken = ap (fault_of command) (sym same) ∙ parse.taken;
      seed_is = gives (found_of m) words (codes "seed") seed rows has_seed;
      size_is = gives (found_of m) words (codes "size") size rows has_size;
    }

-- one word more
pub word_more : (words : List Text) (at : ℕ) (done new : List (Bor Text)) (next : Bor Text) → map (λ w. w.now) done ≡ take at words
    → new ≡ done ++ next ∷ [] → slice_get words at ≡ Some next.now → map (λ w. w.now) new ≡ take (at + 1) words
word_more words at done new next so_far is here =
    let more : take (suc at) words ≡ take at words ++ next.now ∷ [] =
    take-suc words at next.now (slice_get_within words at next.now here)
    ∙ ap (λ (w : Text). take at words ++ w ∷ []) (get_or_from_slice_get words at next.now next.now here) in
    rw add-one (ap (map (λ (w : Bor Text). w.now)) is ∙ map-append (λ (w : Bor Text). w.now) done (next ∷ [])
    ∙ ap (λ (t : List Text). t ++ next.now ∷ []) so_far ∙ sym more)
