use Rattle.dsr_chain.proofs.Contents.{requests_of_content, no_requests}
use Rattle.dsr_chain.proofs.laws.content_determines_requests.Goals as goal

pub returns-clause-requests : goal.returns-clause-requests
returns-clause-requests c = requests_of_content

pub returns-clause-idle : goal.returns-clause-idle
returns-clause-idle c = no_requests
