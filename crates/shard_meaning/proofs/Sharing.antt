-- A job may be shared between threads: its plan, its edges and its data, type by type from expressions upwards; a shard
-- may be sent and shared.
use Rattle.std.proofs.Common.{rules}
use denote.Param.Send.{IsSend, IsSync, AllSync, sendable, recorded_sync, struct_sync}
use denote.Struct.Struct.{Struct}
use denote.Struct.Declared.{Declared, fields, shape, row}
use Rattle.std.proofs.Crossing.{crosses, Vec-sync}
use Rattle.ptg_base.specs.contracts.seq.Seq.{the_row as seq_row}
use Rattle.ptg_base.specs.contracts.text.Text.{the_row as text_row}
use Rattle.term_core.proofs.expr.Node.TheLaws.TheKnot.{crosses as expr_crosses}
use Rattle.term_core.proofs.body.Block.TheLaws.TheKnot.{sync-Block as block_from_parts}
use Rattle.term_core.specs.contracts.body.Block.{the_row as block_row}
use Rattle.term_core.specs.contracts.expr.Expr.{the_row as expr_row}
use Rattle.term_core.specs.contracts.body.Body.{the_type as body_type}
use Rattle.term_core.specs.contracts.space.ClassSpace.{the_row as space_row}
use Rattle.plan_core.specs.contracts.target.Arg.{the_row as arg_row}
use Rattle.plan_core.specs.contracts.target.Target.{the_row as target_row}
use Rattle.plan_core.specs.contracts.flow.DepPlan.{the_row as dep_row}
use Rattle.plan_core.specs.contracts.flow.FlowPlan.{the_row as flow_row}
use Rattle.plan_core.specs.contracts.class.ClassPlan.{the_row as class_row, the_type as class_type}
use Rattle.plan_core.specs.contracts.plan.Plan.{the_row as plan_row, the_type as plan_type}
use Rattle.coll_data.specs.contracts.coll.Coll.{the_row as coll_row}
use Rattle.coll_data.specs.contracts.given.Given.{the_row as given_row}
use Rattle.dep_iter.specs.contracts.matched.Matched.{the_row as matched_row}
use Rattle.dep_shard.specs.contracts.shard.Shard.{the_row as shard_row}
use Rattle.dep_shard.proofs.tile_list.TileList.TheLaws.TheKnot.{crosses as list_crosses}

-- a struct may be shared if its fields may be
pub declared_sync : (T : Declared) → AllSync (fields T) → IsSync (row T)
declared_sync T s = recorded_sync (Struct (shape T)) T.D T.to T.to_one (struct_sync (shape T) s)

expr_sync : IsSync expr_row
expr_sync = search (rules, sendable, crosses, expr_crosses) depth 40

arg_sync : IsSync arg_row
arg_sync = let a = expr_sync in search (rules, sendable, crosses) depth 30

target_sync : IsSync target_row
target_sync = let a = expr_sync in let b = arg_sync in search (rules, sendable, crosses) depth 30

dep_sync : IsSync dep_row
dep_sync = let a = expr_sync in let b = target_sync in search (rules, sendable, crosses) depth 30

flow_sync : IsSync flow_row
flow_sync = let a = dep_sync in search (rules, sendable, crosses) depth 30

block_sync : IsSync block_row
block_sync = block_from_parts Vec-sync (search sendable) expr_sync (search sendable) (search sendable)

space_sync : IsSync space_row
space_sync = let a = expr_sync in search (rules, sendable, crosses) depth 30

flows_sync : IsSync (seq_row flow_row)
flows_sync = let a = flow_sync in search (sendable, crosses) depth 30

words_sync : IsSync (seq_row text_row)
words_sync = search (sendable, crosses) depth 30

exprs_sync : IsSync (seq_row expr_row)
exprs_sync = let a = expr_sync in search (sendable, crosses) depth 30

class_sync : IsSync class_row
class_sync = let a = flows_sync in let b = expr_sync in let e = exprs_sync in
    declared_sync class_type (
      search (sendable, crosses) depth 30,
      (
        search (sendable, crosses) depth 30,
        (
          a,
          (
            search (sendable, crosses) depth 30,
            (struct_sync (shape body_type) (block_sync, (search sendable, tt)), (words_sync, tt)),
          ),
        ),
      ),
    )

-- a plan as a field of another struct
pub plan_fields : IsSync (Struct (shape plan_type))
plan_fields = let a = class_sync in let b = space_sync in struct_sync (shape plan_type) (search (sendable, crosses) depth 30)

pub plan_sync : IsSync plan_row
plan_sync = recorded_sync (Struct (shape plan_type)) plan_type.D plan_type.to plan_type.to_one plan_fields

pub matched_sync : IsSync matched_row
matched_sync = let a = plan_fields in search (sendable, crosses) depth 30

coll_sync : IsSync coll_row
coll_sync = search (sendable, crosses) depth 30

pub given_sync : IsSync given_row
given_sync = let a = coll_sync in search (sendable, crosses) depth 40 fits 20000

pub shard_send : IsSend shard_row
shard_send = search (sendable, crosses, list_crosses) depth 40 fits 20000

pub shard_sync : IsSync shard_row
shard_sync = search (sendable, crosses, list_crosses) depth 40 fits 20000
