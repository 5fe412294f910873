-- A text that goes out part after part.
use Rattle.std.proofs.Common.{◌≡◌, ◌++◌, ◌+◌, ◌≤◌, ◌∙◌, ℕ, List, [], Bool, ap, append_assoc, arith, length, refl, subst, sym, take}
use Rattle.std.proofs.KnownBytes.{Appends-nil, Appends-trans}
use Rattle.std.proofs.Math.Seq.{take-append-add}
use Rattle.std.proofs.lemmas.List.{length-append}
use Rattle.dsr_names.specs.Streams.{Output, SentAll, SentPrefix}
use Rattle.dsr_explain.specs.Outlet.{HasGoneOut}

-- nothing has gone out yet
pub none_gone : (in_parts : Bool) (text : List ℕ) (sink : Output) → HasGoneOut in_parts text text sink sink
none_gone in_parts text sink = record { first = []; went_out = Appends-nil sink.contents; whole = refl; at_once = λ e. refl }

-- nothing went out
pub nothing_sent : (text : List ℕ) (sink : Output) → SentPrefix text sink sink
nothing_sent text sink = record { sent = 0; within = omega arith; appended = Appends-nil sink.contents }

-- the text grew, and then some of the rest went out
pub gone_on : (in_parts : Bool) (text rest more left : List ℕ) (before middle after : Output) → HasGoneOut in_parts text rest before middle
    → HasGoneOut in_parts (rest ++ more) left middle after → HasGoneOut in_parts (text ++ more) left before after
gone_on in_parts text rest more left before middle after was now =
    record {
      first = was.first ++ now.first;
      went_out = Appends-trans before.contents middle.contents after.contents was.first now.first was.went_out now.went_out;
      whole = ap (λ t. t ++ more) was.whole
          ∙ (append_assoc was.first rest more ∙ (ap (λ t. was.first ++ t) now.whole ∙ sym (append_assoc was.first now.first left)));
      at_once = λ e. ap (λ t. t ++ now.first) (was.at_once e) ∙ now.at_once e;
    }

-- after what went out, all of the rest did
pub all_gone : (in_parts : Bool) (text rest : List ℕ) (before middle after : Output) → HasGoneOut in_parts text rest before middle → SentAll rest middle after
    → SentAll text before after
all_gone in_parts text rest before middle after was now =
    subst (λ t. SentAll t before after) (sym was.whole) (Appends-trans before.contents middle.contents after.contents was.first rest was.went_out now)

-- after what went out, a prefix of the rest did
pub prefix_gone : (in_parts : Bool) (text rest : List ℕ) (before middle after : Output) → HasGoneOut in_parts text rest before middle
    → SentPrefix rest middle after → SentPrefix text before after
prefix_gone in_parts text rest before middle after was now =
    let count : length (was.first ++ rest) ≡ length was.first + length rest = length-append was.first rest in
    record {
      sent = length was.first + now.sent;
      within = subst (λ t. length was.first + now.sent ≤ length t) (sym was.whole) (omega (arith, count, now.within));
      appended = subst (λ t. SentAll (take (length was.first + now.sent) t) before after) (sym was.whole)
          (subst (λ t. SentAll t before after) (sym (take-append-add was.first rest now.sent))
          (Appends-trans before.contents middle.contents after.contents was.first (take now.sent rest) was.went_out now.appended));
    }
