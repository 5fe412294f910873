use Rattle.std.proofs.Common.{◌≡◌, ◌∙◌, codes, sym, true}
use Rattle.std.specs.Str.{bytes_eq}
use Rattle.std.proofs.lemmas.List.Folds.{list_any-from_Any}
use Rattle.clap.proofs.WalkLemmas.{list_any-map}
use Rattle.dsr_command.proofs.has_separator.Goals as goal

-- the current word is `--`
pub returns-then-eq : goal.returns-then-eq
returns-then-eq g c =
    let here : bytes_eq (g.S.AsStr.text c.word-item.result) (codes "--") ≡ true = rw (← c.as_str.ensures) (sym c.eq.ensures ∙ c.if-eq.true) in
    let any = list_any-from_Any (λ w. bytes_eq (g.S.AsStr.text w) (codes "--")) c.args.words.now (c.loop-word.word-index, c.word-item.result, c.loop-word-test.true, sym c.word-item.is, here) in
    sym any ∙ list_any-map (λ word. bytes_eq word (codes "--")) g.S.AsStr.text c.args.words.now
