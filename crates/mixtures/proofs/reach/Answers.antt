-- `mixtures::reach` meets its contract.
use mathlib.Core.Path.{◌≡◌, ap, ◌∙◌}
use borrow.Author.Rules.{rules}
use lib.ListN.{length, length-replicate, replicate}
use Rattle.graph.specs.Graph.{graph_of}
use Rattle.table.proofs.QuestionLaws.{modifier_field}
use Rattle.mixtures.proofs.WalkLaws.{reaches_from}
use Rattle.mixtures.proofs.reach.Goals as goal

pub returns : goal.returns
returns c =
    let a = c.args in
    let blank : c.fill.new.self ≡ replicate (length a.marks.now) 0 = search rules in
    record {
      marks_len_unchanged = c.mixture_step.ensures.marks_len_unchanged ∙ c.modifier_step.ensures.marks_len_unchanged ∙ ap length blank ∙ length-replicate (length a.marks.now) 0;
      reaches_from = reaches_from (graph_of a.records.now a.pairs.now) a.through a.n (length a.marks.now) blank (c.modifier.ensures ∙ modifier_field a.records.now a.n) c.modifier_step.ensures.steps c.mixture_step.ensures.steps_aside;
    }
