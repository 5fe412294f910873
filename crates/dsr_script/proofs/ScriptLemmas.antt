-- Whole scripts.
use Rattle.std.proofs.Common.{List, sym, ℕ, ◌∙◌, ◌≡◌}
use Rattle.dsr_script.specs.Script.{Script, Spells, SaysTheSame, Gives}

-- a script that has what a text's lines give says the same as the script whose text it is
pub says_the_same : (text : List ℕ) (script other : Script) (s : Spells text script) → other.shape ≡ script.shape → Gives s.lines other → SaysTheSame script other
says_the_same text script other s same gives =
    record {
      shape = sym same;
      ops = λ client. s.gives.ops client ∙ sym (gives.ops client);
      drafts = λ place. s.gives.drafts place ∙ sym (gives.drafts place);
    }
