use Rattle.std.proofs.Common.{List, map, ap, ◌∙◌, slice_get}
use Rattle.dep_iter.specs.declared.link.Link.{Link}
use Rattle.dep_iter.specs.Links.{link}
use Rattle.dep_iter.specs.Walking.{link_item}
use Rattle.dep_iter.proofs.Sending.{first_none, first_some}
use Rattle.dep_iter.proofs.links.TargetLinks.first_item.Goals as goal

pub returns-in-Some : goal.returns-in-Some
returns-in-Some c =
    let s = c.self.inside in
    let to_item = link_item c.args.task.now in
    let to_link = link s.near s.class s.far_flow in
    let one = first_some to_link s.params c.in-Some.values.now c.in-Some.ensures.first in
    let two = first_some to_item (map to_link s.params) (to_link c.in-Some.values.now) one in
    c.link_item.ensures ∙ (two ∙ ap (λ (ls : List Link). slice_get (map to_item ls) 0) c.self.view_is)

pub returns-in-None : goal.returns-in-None
returns-in-None c =
    let s = c.self.inside in
    let to_item = link_item c.args.task.now in
    let to_link = link s.near s.class s.far_flow in
    let one = first_none to_link s.params c.in-None.ensures.first in
    let two = first_none to_item (map to_link s.params) one in
    two ∙ ap (λ (ls : List Link). slice_get (map to_item ls) 0) c.self.view_is
