-- A value as the list of its signed requests.
use Rattle.std.specs.Prelude.{List, Option}
use Rattle.dsr_request.specs.Request.{Request}
use Rattle.dsr_chain.specs.Content.{content}
use Rattle.dsr_chain.specs.declared.signed_request.SignedRequest.{SignedRequest}
pub use Rattle.dsr_chain.specs.Content.{value_of}

-- the content of the value with these signed requests
abbrev pub content_of : List SignedRequest → Option (List Request)
content_of signed = content (value_of signed)
