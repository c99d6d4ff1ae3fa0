use Rattle.ib_plan_tests.proofs.memories.content.Goals as goal

pub content_of-requires : goal.content_of-requires
content_of-requires c = record {
  roots = c.args.roots;
  few = c.requires.few;
  some = c.requires.some;
  within = c.requires.within;
  least = c.requires.least;
  most = c.requires.most;
  lawful = c.check_tree.ensures.0 c.if-not-check_tree.false;
}
