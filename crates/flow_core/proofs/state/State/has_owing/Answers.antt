use Rattle.std.proofs.Common.{refl, subst, inl}
use Rattle.std.proofs.lemmas.Bool.{false≢true}
use Rattle.flow_core.specs.Quiet.{Owes}
use Rattle.flow_core.proofs.Quiet.{IsSearched, entry_end, entry_task, search_finds, search_goes_on}
use Rattle.flow_core.proofs.state.State.has_owing.Goals as goal

pub owes-requires : goal.owes-requires
owes-requires c =
    let w = subst (IsSearched (Owes c.args.m.now c.args.self.now.sends) c.args.self.now.claims) c.in-Some.ensures.steps c.loop-t.invariant in
    let i = w.among (c.in-Some.t.now, c.in-Some.end.now) (inl refl) in
    record {
      task = entry_task c.args.m.now c.requires.0 c.args.self.now c.requires.1 (c.in-Some.t.now, c.in-Some.end.now) i;
      end = entry_end c.args.m.now c.requires.0 c.args.self.now c.requires.1 (c.in-Some.t.now, c.in-Some.end.now) i;
      fits = c.requires;
    }

pub returns-then-owes : goal.returns-then-owes
returns-then-owes c =
    let w = subst (IsSearched (Owes c.args.m.now c.args.self.now.sends) c.args.self.now.claims) c.in-Some.ensures.steps c.loop-t.invariant in
    search_finds (Owes c.args.m.now c.args.self.now.sends) c.args.self.now.claims c.next.new.self
    (c.in-Some.t.now, c.in-Some.end.now) w (c.if-owes.ensures.0 refl)

pub loop-t-preserved : goal.loop-t-preserved
loop-t-preserved c =
    let w = subst (IsSearched (Owes c.args.m.now c.args.self.now.sends) c.args.self.now.claims) c.in-Some.ensures.steps c.loop-t.invariant in
    search_goes_on (Owes c.args.m.now c.args.self.now.sends) c.args.self.now.claims c.next.new.self
    (c.in-Some.t.now, c.in-Some.end.now) w (λ o. false≢true (c.if-owes.ensures.1 o))
