use Rattle.dsr_boxes_tests.proofs.FewPosts.{few_posts}
use Rattle.dsr_boxes_tests.proofs.boxes.post_empty.Goals as goal

pub post-requires-clause-few : goal.post-requires-clause-few
post-requires-clause-few c = few_posts c.args.to.now c.args.poster.now.log c.requires.few
