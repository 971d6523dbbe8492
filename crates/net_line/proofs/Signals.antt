-- Lines of signals are read as they are written, and nothing else is.
use Rattle.std.proofs.Common.{◌≡◌, ℕ, suc, ◌+◌, Bool, true, false, List, [], ◌∷◌, ◌++◌, Option, Some, None}
use Rattle.std.proofs.Common.{refl, sym, ap, ◌∙◌, subst, codes, arith, take, drop, append_assoc, length}
use Rattle.std.specs.Prelude.{◌&&◌, ◌==◌, not, if◌then◌else◌}
use Rattle.std.specs.Str.{is_utf8}
use Rattle.std.proofs.lemmas.List.{append-nil}
use Rattle.hh_base.specs.Bytes.{space, quote}
use Rattle.hh_base.specs.declared.value.Kind.{Kind}
use Rattle.hh_base.specs.declared.value.Dir.{Dir}
use Rattle.hh_base.specs.declared.value.CombineWord.{CombineWord}
use Rattle.hh_base.specs.declared.value.Value.{Value}
use Rattle.net_list.specs.declared.record.NetSignal.{NetSignal}
use Rattle.net_text.specs.Parts.{spaced, line_end as line_feed_alone, number as written_number, dir_word}
use Rattle.net_text.specs.Parts.{kind_word}
use Rattle.net_text.specs.Parts.{combine_or_nothing, name_or_nothing, first_or_nothing}
use Rattle.net_text.specs.Lines.{signal_line}
use Rattle.net_line.specs.Decoding.{dir_of, kind_of, combine_of}
use Rattle.net_line.specs.Literals.{is_dash, first_of, name_of, is_name_part}
use Rattle.net_line.specs.Formed.{IsSmall, IsNamePart, IsNameForm, IsFirstForm, IsSignalForm, first_fits}
use Rattle.net_line.specs.GateReading.{number}
use Rattle.net_line.specs.SignalReading.{signal_of, signal_row}
use Rattle.net_line.specs.Reading.{Ends}
use Rattle.net_line.specs.Reading.{Reader, and_then, ◌>>=◌, only_if, lift, part, part_as, word_as, line_end}
use Rattle.net_line.specs.Reading.{plain}
use Rattle.net_line.specs.Reading.{ends, word_len, quoted_len, part_len, cut_at}
use Rattle.net_line.proofs.Chain.{between, same_read, Reads_under, ReadsAll, Anything, in_turn, reads_same}
use Rattle.net_line.proofs.Numbers.{are_same}
use Rattle.net_line.proofs.Parts.{is_quoted, IsPart, plain_part, part_only, lifted, reads_part, reads_word}
use Rattle.net_line.proofs.Parts.{reads_end}
use Rattle.net_line.proofs.Gates.{reads_number}
use Rattle.net_line.proofs.Literals.{both, taken_true, taken_false}
use Rattle.net_line.proofs.Words.{dirs, dir_plain, kinds, kind_part, combines, combine_part, firsts}
use Rattle.net_line.proofs.Words.{first_part}

-- ---- names

put : (a b : Bool) → a ≡ false → b ≡ true → (not a && b) ≡ true
put false b e f = f
put true b e f = absurd cc

plain_front : (bs : List ℕ) → plain (take (word_len bs) bs) ≡ true
plain_front [] = refl
plain_front (b ∷ bs) = by_end (plain_front bs) (ends b) refl
  where
    by_end : plain (take (word_len bs) bs) ≡ true → (t : Bool) → ends b ≡ t
        → plain (take (if t then 0 else 1 + word_len bs) (b ∷ bs)) ≡ true
    by_end rest true e = refl
    by_end rest false e =
        let more : 1 + word_len bs ≡ suc (word_len bs) = omega arith in
        ap (λ n. plain (take n (b ∷ bs))) more ∙ put (ends b) (plain (take (word_len bs) bs)) e rest

plain_part_of : (bs w c : List ℕ) → cut_at (part_len bs) bs ≡ Some (w, c) → is_quoted w ≡ false → plain w ≡
    true
plain_part_of [] w c e q = let h = same_read [] w [] c e in ap plain (sym h.0)
plain_part_of (b ∷ bs) w c e q = by_quote (b == quote) refl e
  where
    by_quote : (t : Bool) → (b == quote) ≡ t
        → cut_at (if t then 1 + quoted_len false bs else word_len (b ∷ bs)) (b ∷ bs) ≡ Some (w, c) → plain
        w ≡ true
    by_quote true h e =
        let more : 1 + quoted_len false bs ≡ suc (quoted_len false bs) = omega arith in
        let s = same_read (take (1 + quoted_len false bs) (b ∷ bs)) w (drop (1 + quoted_len false bs) (b ∷
        bs)) c e in
        let first : is_quoted w ≡ true = ap is_quoted (sym s.0) ∙ ap (λ n. is_quoted (take n (b ∷ bs)))
        more ∙ h in
        let clash : true ≡ false = sym first ∙ q in
        absurd cc
    by_quote false h e =
        let s = same_read (take (word_len (b ∷ bs)) (b ∷ bs)) w (drop (word_len (b ∷ bs)) (b ∷ bs)) c e in
        ap plain (sym s.0) ∙ plain_front (b ∷ bs)

pub part_plain : (l w c : List ℕ) → part l ≡ Some (w, c) → is_quoted w ≡ false → plain w ≡ true
part_plain [] w c e q = absurd cc
part_plain (b ∷ bs) w c e q = by_space (b == space) refl e
  where
    by_space : (t : Bool) → (b == space) ≡ t → (if t then cut_at (part_len bs) bs else None) ≡ Some (w, c)
        → plain w ≡ true
    by_space true h e = plain_part_of bs w c e q
    by_space false h e = absurd cc

pub name_unquoted : (w : List ℕ) → is_name_part w ≡ true → is_quoted w ≡ false
name_unquoted [] e = refl
name_unquoted (b ∷ bs) e = no_quote (b == quote) (is_utf8 (b ∷ bs)) e
  where
    no_quote : (a c : Bool) → (not a && c) ≡ true → a ≡ false
    no_quote true c e = absurd cc
    no_quote false c e = refl

name_read : (o : Option (List ℕ)) → IsNameForm o → name_of (name_or_nothing o) ≡ Some o
name_read None f = refl
name_read (Some w) f =
    taken_false (is_dash w) (Some None) (if is_name_part w then Some (Some w) else None) f.some
    ∙ taken_true (is_name_part w) (Some (Some w)) None f.part

name_part : (o : Option (List ℕ)) → IsNameForm o → IsPart (name_or_nothing o)
name_part None f = plain_part (codes "-") refl refl
name_part (Some w) f = plain_part w f.plain (name_unquoted w f.part)

name_only : (w : List ℕ) (o : Option (List ℕ)) → (is_quoted w ≡ false → plain w ≡ true) → name_of w ≡ Some o
    → (w ≡ name_or_nothing o) × IsNameForm o
name_only w o h e = by_dash (is_dash w) (is_name_part w) refl refl e
  where
    by_dash : (d n : Bool) → is_dash w ≡ d → is_name_part w ≡ n
        → ◌≡◌ {A = Option (Option (List ℕ))} (if d then Some None else if n then Some (Some w) else None)
        (Some o)
        → (w ≡ name_or_nothing o) × IsNameForm o
    by_dash true n hd hn e =
        let same : ◌≡◌ {A = Option (List ℕ)} None o = cc in
        (are_same w (codes "-") hd ∙ ap name_or_nothing same, subst IsNameForm same tt)
    by_dash false true hd hn e =
        let same : ◌≡◌ {A = Option (List ℕ)} (Some w) o = cc in (
          ap name_or_nothing same,
          subst IsNameForm same (record { plain = h (name_unquoted w hn); part = hn; some = hd }),
        )
    by_dash false false hd hn e = absurd cc

pub reads_name : ReadsAll Ends (part_as name_of) (λ o. spaced (name_or_nothing o)) IsNameForm
reads_name = record {
  complete = λ o u f c e.
      ap (λ o. and_then o (λ w. lift (name_of w))) (name_part o f c e) ∙ ap (λ o. lift o c) (name_read o f);
  sound = λ l o c e.
      let b = between (part l) (λ w. lift (name_of w)) o c e in
      let h = lifted (name_of b.first) b.mid o c b.then_read in
      let k = name_only b.first o (part_plain l b.first b.mid b.read) h.0 in
      (part_only l b.first b.mid b.read ∙ (λ i. spaced (k.0 i) ++ h.1 i), k.1, tt);
}

-- ---- signals

pub made_if : {S : Type 0} {E : List ℕ → Type 0} {P : S → Type 0} (fits : S → Bool) (it : S) → P it
    → ((s : S) → P s → it ≡ s) → Reads_under E (only_if (fits it) it) (λ s. []) (λ s. fits s ≡ true) P
made_if {S} {E} {P} fits it p same = record {
  complete = λ s ps f c e. (λ i. only_if (fits (same s ps i)) (same s ps i) c) ∙ ap (λ b. only_if b s c) f;
  sound = λ l s c e. by_test (fits it) refl l s c e;
}
  where
    by_test : (t : Bool) → fits it ≡ t → (l : List ℕ) (s : S) (c : List ℕ) → only_if t it l ≡ Some (s, c)
        → (l ≡ [] ++ c) × (fits s ≡ true) × P s
    by_test true h l s c e =
        let r = same_read it s l c e in (r.1, subst (λ x. fits x ≡ true) r.0 h, subst P r.0 p)
    by_test false h l s c e = absurd cc

nested : (a b c d e f g h i j : List ℕ)
    → a ++ (b ++ (c ++ (d ++ (e ++ (f ++ (g ++ (h ++ (i ++ (j ++ []))))))))) ≡ a ++ b ++ c ++ d ++ e ++ f
    ++ g ++ h ++ i ++ j
nested a b c d e f g h i j = simp (append_assoc, append-nil) refl

signal_parts : (s : NetSignal)
    → dir_word s.decl.dir ++ (spaced (name_or_nothing s.decl.name) ++ (spaced (kind_word s.decl.kind)
    ++ (spaced (first_or_nothing s.decl.first) ++ (spaced (combine_or_nothing s.decl.combine)
    ++ (written_number s.decl.pos.0 ++ (written_number s.status ++ (written_number s.pre
    ++ (written_number s.sel ++ (line_feed_alone ++ []))))))))) ≡ signal_line s
signal_parts s =
    nested (dir_word s.decl.dir) (spaced (name_or_nothing s.decl.name)) (spaced (kind_word s.decl.kind))
    (spaced (first_or_nothing s.decl.first)) (spaced (combine_or_nothing s.decl.combine)) (written_number
    s.decl.pos.0)
    (written_number s.status) (written_number s.pre) (written_number s.sel) line_feed_alone

pub reads_signal : ReadsAll Anything signal_row signal_line IsSignalForm
reads_signal =
    reads_same {S = NetSignal} signal_parts
    (λ s f. (tt, (f.name, (tt, (f.first, (tt, (f.pos, (f.status, (f.pre, (f.sel, (tt, f.fits)))))))))))
    (λ s f. record {
      name = f.1.0;
      first = f.1.1.1.0;
      fits = f.1.1.1.1.1.1.1.1.1.1;
      pos = f.1.1.1.1.1.0;
      status = f.1.1.1.1.1.1.0;
      pre = f.1.1.1.1.1.1.1.0;
      sel = f.1.1.1.1.1.1.1.1.0;
    })
    (in_turn {A = Dir} {S = NetSignal} (λ s. s.decl.dir) (reads_word dirs dir_plain) (λ s f c e. refl) (λ d.
    in_turn {A = Option (List ℕ)} {S = NetSignal} (λ s. s.decl.name) reads_name (λ s f c e. refl) (λ n.
    in_turn {A = Kind} {S = NetSignal} (λ s. s.decl.kind) (reads_part kinds kind_part) (λ s f c e. refl) (λ k.
    in_turn {A = Value} {S = NetSignal} (λ s. s.decl.first) (reads_part firsts first_part) (λ s f c e.
    refl) (λ v.
    in_turn {A = Option CombineWord} {S = NetSignal} (λ s. s.decl.combine) (reads_part combines combine_part)
    (λ s f c e. refl) (λ w.
    in_turn {A = ℕ} {S = NetSignal} (λ s. s.decl.pos.0) reads_number (λ s f c e. refl) (λ pos.
    in_turn {A = ℕ} {S = NetSignal} (λ s. s.status) reads_number (λ s f c e. refl) (λ status.
    in_turn {A = ℕ} {S = NetSignal} (λ s. s.pre) reads_number (λ s f c e. refl) (λ pre.
    in_turn {A = ℕ} {S = NetSignal} (λ s. s.sel) reads_number (λ s f c e. refl) (λ sel.
    in_turn {A = Unit {0}} {S = NetSignal} (λ s. tt) reads_end (λ s f c e. tt) (λ u.
    made_if {S = NetSignal} (λ s. first_fits s.decl.kind s.decl.first) (signal_of d n k v w pos status pre
    sel)
    ((((((((((tt, refl), refl), refl), refl), refl), refl), refl), refl), refl), refl)
    (λ s p. λ i. record {
      decl = record {
        name = sym p.0.0.0.0.0.0.0.0.1 i;
        dir = sym p.0.0.0.0.0.0.0.0.0.1 i;
        kind = sym p.0.0.0.0.0.0.0.1 i;
        first = sym p.0.0.0.0.0.0.1 i;
        combine = sym p.0.0.0.0.0.1 i;
        pos = record { 0 = sym p.0.0.0.0.1 i };
      };
      status = sym p.0.0.0.1 i;
      pre = sym p.0.0.1 i;
      sel = sym p.0.1 i;
    }))))))))))))
