use Rattle.std.proofs.Common.{◌≡◌, ◌++◌, if◌then◌else◌, codes, subst, sym}
use Rattle.std.specs.Option.{option_map}
use Rattle.std.specs.Prelude.{string_bytes}
use Rattle.dsr_names.specs.Actor.{actor_text}
use Rattle.dsr_explain.specs.Lines.{chain_line, or_empty}
use Rattle.dsr_explain.proofs.NoteLemmas.{not_new_line}
use Rattle.dsr_explain.proofs.chain_lines.write_chain.Goals as goal

pub returns-in-Some : goal.returns-in-Some
returns-in-Some c =
    let is_data = c.args.as_data in
    let shape = c.args.shape.now in
    let chain = option_map (λ x. x.now) c.args.chain in
    let shown = or_empty (option_map (λ t. string_bytes t.now.shown) c.args.text) in
    let old = c.args.out.now in
    let new = c.write_not_new.new.out in
    let end = c.in-Some.ensures in
    subst (λ f. new ≡ old ++ chain_line is_data shape c.args.at chain shown c.args.slot f) (sym end.1)
    (subst (λ t. new ≡ old ++ t) (sym (not_new_line is_data shape c.args.at chain shown c.args.slot end.0))
    (subst (λ t. new ≡ old ++ (if is_data then codes "chain " ++ (actor_text c.args.at ++ t) else t)) end.2 c.write_not_new.ensures))
