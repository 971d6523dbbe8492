-- What `hiphop` promises of the words of `gen`.
use Rattle.std.proofs.Common.{◌≡◌, ◌≢◌, ◌∙◌, ℕ, Bool, true, false, Option, Some, None, List, [], ap, arith, codes, refl, slice_get, slice_index, sym}
use Rattle.std.specs.Str.Parse.{digits_value, without_leading_plus}
use Rattle.clap.specs.Words.{fault_of}
use Rattle.hh_io.specs.SinkState.{SinkState}
use Rattle.hh_io.specs.SourceState.{SourceState}
use Rattle.host_hooks.specs.Promise.{Promise}
use Rattle.gen_words.specs.Words.{Gives, IsOrder, command}
use Rattle.hiphop_main.specs.declared.ending.Cause.{Cause}
use Rattle.hiphop_main.specs.Exchange.{exchange}
use Rattle.hiphop_main.specs.Gen.{AnswersWords, IsGenWord, misused, no_order, ordered}
use Rattle.hiphop_main.specs.Obeys.{IsCommand, IsPlay, Obeys, gen, gens, play, says_usage, unanswered}
use Rattle.hiphop_main.proofs.Gens.{sums_command, sums_complete, sums_fine}

-- the word of an option, or none
abbrev first_of : Option (List ℕ) → List ℕ
first_of (Some word) = word
first_of None = []

-- the first bytes of the two words, g and p
apart : (m n : ℕ) → m ≡ 103 → n ≡ 112 → m ≡ n → ⊥
apart m n is_g is_p same = absurd (let no_same : ⊥ = omega arith in no_same)

pub play_is_no_gen : (words : List (List ℕ)) → IsPlay words → IsGenWord words → ⊥
play_is_no_gen words is word =
    let both : Some (codes "gen") ≡ Some (codes "play") = sym word ∙ ap (λ (ws : List (List ℕ)). slice_get ws 0) is in
    apart (slice_index (codes "gen") 0) (slice_index (codes "play") 0) refl refl
    (ap (λ (o : Option (List ℕ)). slice_index (first_of o) 0) both)

no_command : (words : List (List ℕ)) → IsGenWord words → fault_of command words ≢ [] → ¬ IsCommand words
no_command words word other (play p) = play_is_no_gen words p word
no_command words word other (gen g) = other g.order.taken

-- words give one number
gives_once : (words : List (List ℕ)) (name : List ℕ) (m n : ℕ) → Gives words name m → Gives words name n → m ≡ n
gives_once words name m n a b =
    let both : Some a.text ≡ Some b.text = sym a.given ∙ b.given in
    let same : a.text ≡ b.text = ap first_of both in
    a.number_is ∙ ap (λ (t : List ℕ). digits_value 10 (without_leading_plus t)) same ∙ sym b.number_is

pub order_once : (words : List (List ℕ)) (seed seed' size size' : ℕ) → IsOrder words seed size → IsOrder words seed' size' → (seed ≡ seed') × (size ≡ size')
order_once words seed seed' size size' a b =
    (gives_once words (codes "seed") seed seed' a.seed_is b.seed_is, gives_once words (codes "size") size size' a.size_is b.size_is)

pub gen_obeys : (hooks : List Promise) (words : List (List ℕ)) (source : SourceState) (old new : SinkState) (cause : Cause) → IsGenWord words
    → AnswersWords hooks words old new cause → Obeys hooks words (exchange source source old new) cause
gen_obeys hooks words source old new cause word (ordered {seed} {size} o s) =
    gens (record { word = word; order = o }) (record {
      ends = s;
      fine = sums_fine hooks seed size old new cause s;
      complete = λ p ls i. sums_complete hooks seed size (exchange source source old new) cause p ls s i;
      command = sums_command hooks seed size old new cause s;
      unread = refl;
    })
gen_obeys hooks words source old new cause word (misused n e) = says_usage (no_command words word n) (record { line = e; unread = refl })
gen_obeys hooks words source old new cause word (no_order m s) =
    unanswered word (record { lacks_memory = m; unwritten = s; unread = refl })

pub no_word_is_one : (words : List (List ℕ)) → ¬ IsPlay words → ¬ IsGenWord words → ¬ IsCommand words
no_word_is_one words no_play no_gen (play p) = no_play p
no_word_is_one words no_play no_gen (gen g) = no_gen g.word

pub not_both : (b : Bool) → b ≡ true → b ≡ false → ⊥
not_both b holds fails = cc
