-- Datatypes: the two ends of a dependence have the same one if no rule refuses it.
use Rattle.std.proofs.Common.{◌≡◌, ℕ, suc, ◌<◌, Bool, true, false, not, ◌&&◌, ◌==◌, cond, List, length, Some, None, option_map, slice_get, IsTrue}
use Rattle.std.proofs.Common.{refl, sym, ◌∙◌, ap, arith}
use Rattle.std.specs.List.{position}
use Rattle.std.specs.Option.{option_map_or}
use Rattle.std.specs.Str.{bytes_eq}
use Rattle.std.specs.Cmp.Lexicographic.{bytes_decides}
use Rattle.std.proofs.lemmas.Bool.{lt-ltb, eqb-true, eq-eqb, not-false}
use Rattle.term_core.specs.declared.flow.FlowKind.{FlowKind}
use Rattle.term_core.specs.declared.flow.FlowKind.TheVariants.{Read, Write, Rw, Ctl}
use Rattle.coll_data.specs.declared.coll.Coll.{Coll}
use Rattle.coll_data.specs.Data.{Data}
use Rattle.plan_core.specs.Flows.{is_datatype}
use Rattle.type_rules.specs.TreesAndFaults.{FlowTree}
use Rattle.std.proofs.lemmas.Option.{same_Some}
use Rattle.list_lemmas.proofs.Places.{position_within}
use Rattle.list_lemmas.proofs.Options.{from_option_map}
use Rattle.type_rules.specs.Kinds.{is_control}
use Rattle.coll_data.specs.Types.{default_type}
use Rattle.type_rules.specs.Datatypes.{type_is, type_number, allowed_type, type_of_flow, flow_type}
use Rattle.type_rules.specs.Rules.{is_other_flow, has_other_type}

pub data_type : (d : Data) (k : FlowKind) (name : List ℕ) (n : ℕ) → is_control k ≡ false → allowed_type d k name ≡ Some n → type_number d name ≡ Some n
data_type d k name n c e = ap (λ b. cond (b && not (bytes_eq name default_type)) None (type_number d name)) (sym c) ∙ e

control_type : (d : Data) (k : FlowKind) (name : List ℕ) (n : ℕ) → is_control k ≡ true → allowed_type d k name ≡ Some n → n ≡ 0
control_type d k name n c e = go (bytes_eq name default_type) (ap (λ b. cond (b && not (bytes_eq name default_type)) None (type_number d name)) (sym c) ∙ e)
  where
    go : (b : Bool) → cond (not b) None (cond b (Some 0) (option_map suc (position (type_is name) d.types))) ≡ Some n → n ≡ 0
    go true f = sym (same_Some 0 n f)
    go false f = absurd cc

type_below : (d : Data) (name : List ℕ) (n : ℕ) → type_number d name ≡ Some n → n < suc (length d.types)
type_below d name n e = go (bytes_eq name default_type) e
  where
    go : (b : Bool) → cond b (Some 0) (option_map suc (position (type_is name) d.types)) ≡ Some n → n < suc (length d.types)
    go true f = let same = same_Some 0 n f in omega (arith, same)
    go false f =
        let p = from_option_map suc (position (type_is name) d.types) n f in
        let same : suc p.0 ≡ n = p.2 in
        let below = position_within (type_is name) d.types p.0 p.1 in
        omega (arith, same, below)

-- the type of a flow is allowed for it
pub datatype_allowed : (d : Data) (k : FlowKind) (name : List ℕ) (n : ℕ) → allowed_type d k name ≡ Some n → IsTrue (is_datatype (suc (length d.types)) k n)
datatype_allowed d Read name n e = lt-ltb n (suc (length d.types)) (type_below d name n (data_type d Read name n refl e))
datatype_allowed d Write name n e = lt-ltb n (suc (length d.types)) (type_below d name n (data_type d Write name n refl e))
datatype_allowed d Rw name n e = lt-ltb n (suc (length d.types)) (type_below d name n (data_type d Rw name n refl e))
datatype_allowed d Ctl name n e = eq-eqb n 0 (control_type d Ctl name n refl e)

-- two flows with the same type
pub flows_agree : (d : Data) (flow other : FlowTree) (n m : ℕ) → is_control other.kind ≡ is_control flow.kind
    → (not (is_control flow.kind) && is_other_flow (type_of_flow flow) other) ≡ false
    → flow_type d flow ≡ Some n → flow_type d other ≡ Some m → m ≡ n
flows_agree d flow other n m same h e f = go (is_control flow.kind) refl
  where
    go : (b : Bool) → is_control flow.kind ≡ b → m ≡ n
    go true c = control_type d other.kind (type_of_flow other) m (same ∙ c) f ∙ sym (control_type d flow.kind (type_of_flow flow) n c e)
    go false c =
        let differs : is_other_flow (type_of_flow flow) other ≡ false = ap (λ b. not b && is_other_flow (type_of_flow flow) other) (sym c) ∙ h in
        let named : not (bytes_eq (type_of_flow other) (type_of_flow flow)) ≡ false =
        ap (λ b. not b && not (bytes_eq (type_of_flow other) (type_of_flow flow))) (sym (same ∙ c)) ∙ differs in
        let one : type_of_flow other ≡ type_of_flow flow =
        (bytes_decides (type_of_flow other) (type_of_flow flow)).0
        (not-false (bytes_eq (type_of_flow other) (type_of_flow flow)) named) in
        same_Some m n (sym (data_type d other.kind (type_of_flow other) m (same ∙ c) f)
        ∙ (ap (type_number d) one ∙ data_type d flow.kind (type_of_flow flow) n c e))

-- a flow and a collection with the same type
pub element_agrees : (d : Data) (flow : FlowTree) (coll : ℕ) (c : Coll) (n : ℕ) → is_control flow.kind ≡ false
    → has_other_type d (type_of_flow flow) coll ≡ false → slice_get d.colls coll ≡ Some c
    → flow_type d flow ≡ Some n → c.datatype ≡ n
element_agrees d flow coll c n tile h at e =
    let name = type_of_flow flow in
    let there : option_map_or (λ m. not (m == c.datatype)) (type_number d name) true ≡ false =
    ap (λ o. option_map_or (λ (c : Coll). option_map_or (λ m. not (m == c.datatype)) (type_number d name) true)
    o false) (sym at) ∙ h in
    let known : not (n == c.datatype) ≡ false =
    ap (λ o. option_map_or (λ m. not (m == c.datatype)) o true) (sym (data_type d flow.kind name n tile e))
    ∙ there in
    sym (eqb-true n c.datatype (not-false (n == c.datatype) known))
