-- What reads the part of a line of a play that follows its word reads the line.
use Rattle.std.proofs.Common.{◌≡◌, ◌≢◌, List, ◌∷◌, ◌++◌, ℕ, Bool, false, codes, Option, None, Some, Result, Ok, Err, IfOk, sym, ◌∙◌, ap₂, subst, arith}
use Rattle.std.specs.Str.{bytes_eq}
use Rattle.std.proofs.lemmas.Bool.{false≢true}
use Rattle.std.proofs.lemmas.Slice.Eq.{bytes_eq-Decides}
use Rattle.std.proofs.lemmas.List.Elements.{All-from_recursion}
use Rattle.dsr_base.specs.Reads.{Reads}
use Rattle.dsr_base.specs.Split.{IsAbsent}
use Rattle.dsr_base.proofs.Marks.{one_cut, not_absent}
use Rattle.dsr_base.proofs.ReadsLemmas.{reads_none}
use Rattle.dsr_names.specs.declared.actor.Actor.{Actor}
use Rattle.dsr_names.specs.declared.actor.Actor.TheVariants.{Replica, Client}
use Rattle.dsr_names.specs.declared.refusal.Refusal.{Refusal}
use Rattle.dsr_envelope.specs.declared.pick.Pick.{Pick}
use Rattle.dsr_play.specs.declared.event.Event.TheVariants.{Post}
use Rattle.dsr_play.specs.declared.play_line.PlayLine.{PlayLine}
use Rattle.dsr_play.specs.declared.play_line.PlayLine.TheVariants.{One}
use Rattle.dsr_play.specs.PlayText.{line_word, line_rest, line_text, IsPlayLine}
use Rattle.dsr_play.specs.Support.PlayParts.{IsLineOf, post_line, posts_line, asks_line, IsPosted, posted_text, IsChoice, choice_text}

-- what `!=` with a word says
pub not_same_word : (xs ys word : List ℕ) (r : Bool) → r ≡ bytes_eq xs ys → r ≡ false → ys ≡ word → xs ≢ word
not_same_word xs ys word r is fails same e = false≢true (sym fails ∙ (is ∙ (bytes_eq-Decides xs ys).1 (e ∙ sym same)))

-- ---- the lines with a choice

pub reads_post : (rest : List ℕ) (r : Option (Actor × (Actor × Pick))) → Reads IsPosted posted_text rest r
    → Reads (IsLineOf (codes "post")) line_rest rest (post_line r)
reads_post rest None reads x = grind (arith, λ (from to : Actor) (pick : Pick). reads (from, (to, pick)))
reads_post rest (Some (from, (to, pick))) reads x = grind (arith, reads (from, (to, pick)), λ (from to : Actor) (pick : Pick). reads (from, (to, pick)))

pub reads_posts : (rest : List ℕ) → rest ≢ codes "*" → (r : Option (Actor × Pick)) → Reads IsChoice choice_text rest r
    → Reads (IsLineOf (codes "posts")) line_rest rest (posts_line r)
reads_posts rest other None reads x = grind (arith, λ (by : ℕ) (pick : Pick). reads (Replica by, pick))
reads_posts rest other (Some (a, pick)) reads x = grind (arith, reads (a, pick), λ (by : ℕ) (pick : Pick). reads (Replica by, pick))

pub reads_asks : (rest : List ℕ) (r : Option (Actor × Pick)) → Reads IsChoice choice_text rest r
    → Reads (IsLineOf (codes "asks")) line_rest rest (asks_line r)
reads_asks rest None reads x = grind (arith, λ (by : ℕ) (pick : Pick). reads (Client by, pick))
reads_asks rest (Some (a, pick)) reads x = grind (arith, reads (a, pick), λ (by : ℕ) (pick : Pick). reads (Client by, pick))

-- ---- the word itself

word_spaceless : (line : PlayLine) → IsAbsent 32 (line_word line)
word_spaceless (One (Post from to pick)) = All-from_recursion (λ b. b ≢ 32) (codes "post") (omega arith)
word_spaceless line = All-from_recursion (λ b. b ≢ 32) (line_word line) (omega arith)

-- a text without a space is not a line
pub no_line : (bytes : List ℕ) → IsAbsent 32 bytes → Reads IsPlayLine line_text bytes None
no_line bytes whole =
    reads_none IsPlayLine line_text bytes (λ line is e. not_absent 32 (line_word line) (line_rest line) (subst (IsAbsent 32) e whole))

-- what reads the line by its word and what follows reads the line
reads_line : (bytes word rest : List ℕ) → bytes ≡ word ++ 32 ∷ rest → IsAbsent 32 word → (r : Option PlayLine)
    → Reads (IsLineOf word) line_rest rest r → Reads IsPlayLine line_text bytes r
reads_line bytes word rest cut first r reads x = (
  λ e.
      let read = (reads x).0 e in
      (read.0.0, cut ∙ ap₂ (λ xs ys. xs ++ 32 ∷ ys) (sym read.0.1) read.1),
  λ h.
      let both = one_cut 32 word rest (line_word x) (line_rest x) first (word_spaceless x) (sym cut ∙ h.1) in
      (reads x).1 ((h.0, sym both.0), both.1),
)

-- the same of what may have failed
pub reads_line_or_fails : (bytes word rest : List ℕ) → bytes ≡ word ++ 32 ∷ rest → IsAbsent 32 word → (r : Result (Option PlayLine) Refusal)
    → IfOk r (λ line. Reads (IsLineOf word) line_rest rest line) → IfOk r (λ line. Reads IsPlayLine line_text bytes line)
reads_line_or_fails bytes word rest cut first (Ok line) reads = reads_line bytes word rest cut first line reads
reads_line_or_fails bytes word rest cut first (Err refusal) reads = tt
