-- When `==` holds for two contents: exactly if they are equal.
use Rattle.std.specs.Prelude.{◌≡◌, Bool, List, Option}
use Rattle.std.specs.Bool.{Decides}
use Rattle.std.specs.Option.{option_eq}
use Rattle.std.proofs.lemmas.Bool.Decides.{Decides-like}
use Rattle.std.proofs.Common.{ap}
use Rattle.dsr_base.specs.Support.Equality.{equal_options}
use Rattle.dsr_request.specs.Request.{Request}
use Rattle.dsr_request.specs.Support.RequestEquality.{requests_eq, requests_eq-Decides}
use Rattle.dsr_desk.specs.declared.content_text.Content.{Content}
use Rattle.dsr_desk.specs.contracts.content_text.ContentPartialEq.TheImpl.{ghosts}

-- whether `==` holds for two contents
abbrev pub content_eq : Content → Content → Bool
content_eq = ghosts.eq

-- the content with this value
abbrev make : Option (List Request) → Content
make value = record { 0 = value }

-- it holds exactly for equal contents
pub content_eq-Decides : (a b : Content) → Decides (content_eq a b) (a ≡ b)
content_eq-Decides a b =
    Decides-like (option_eq requests_eq a.0 b.0) (λ e. ap make e) (λ e. ap (λ content. content.0) e) (equal_options requests_eq-Decides a.0 b.0)
