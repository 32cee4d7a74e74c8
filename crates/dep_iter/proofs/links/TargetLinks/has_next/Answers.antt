use Rattle.std.proofs.Common.{List, ap, ◌∙◌, is_some, slice_get}
use Rattle.dep_iter.specs.declared.link.Link.{Link}
use Rattle.dep_iter.specs.Links.{link}
use Rattle.dep_iter.proofs.Sending.{has_first}
use Rattle.dep_iter.proofs.links.TargetLinks.has_next.Goals as goal

pub returns : goal.returns
returns c =
    let s = c.self.inside in
    c.is_some.ensures ∙ has_first (link s.near s.class s.far_flow) s.params c.first.result c.first.ensures.first
    ∙ ap (λ (ls : List Link). is_some (slice_get ls 0)) c.self.view_is
