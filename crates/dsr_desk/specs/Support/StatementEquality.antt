-- When `==` holds for two statements: exactly if they are equal.
use Rattle.std.specs.Prelude.{◌≡◌, Bool, ◌&&◌}
use Rattle.std.specs.Bool.{Decides}
use Rattle.std.specs.Option.{option_eq}
use Rattle.std.proofs.lemmas.Bool.Decides.{Decides-and, Decides-like, Decides-eqb}
use Rattle.std.proofs.Common.{eqb}
use Rattle.dsr_base.specs.Support.Equality.{equal_options}
use Rattle.dsr_request.specs.Support.RequestEquality.{request_eq, request_eq-Decides, requests_eq, requests_eq-Decides}
use Rattle.dsr_desk.specs.Support.SignersEquality.{signers_eq, signers_eq-Decides}
use Rattle.dsr_desk.specs.declared.statement.Statement.{Statement}
use Rattle.dsr_desk.specs.declared.statement.Statement.TheVariants.{Ask, Link}
use Rattle.dsr_desk.specs.contracts.statement.StatementPartialEq.TheImpl.{ghosts}

-- whether `==` holds for two statements
abbrev pub statement_eq : Statement → Statement → Bool
statement_eq = ghosts.eq

-- it holds exactly for equal statements
pub statement_eq-Decides : (a b : Statement) → Decides (statement_eq a b) (a ≡ b)
statement_eq-Decides (Ask a) (Ask b) = Decides-like (request_eq a b) (λ e. cc) (λ e. cc) (request_eq-Decides a b)
statement_eq-Decides (Ask a) (Link slot value before) = (λ e. cc, λ e. cc)
statement_eq-Decides (Link slot value before) (Ask b) = (λ e. cc, λ e. cc)
statement_eq-Decides (Link slot value before) (Link slot' value' before') =
    Decides-like (eqb slot slot' && (option_eq requests_eq value value' && signers_eq before before')) (λ e. cc) (λ e. (cc, (cc, cc)))
    (Decides-and (eqb slot slot') (option_eq requests_eq value value' && signers_eq before before') (Decides-eqb slot slot')
    (Decides-and (option_eq requests_eq value value') (signers_eq before before') (equal_options requests_eq-Decides value value') (signers_eq-Decides before before')))
