use Rattle.dsr_base.proofs.few_text.+read_joined.Given as goal

abbrev pub decreases-read_joined : goal.decreases-read_joined
decreases-read_joined g l = l.most
