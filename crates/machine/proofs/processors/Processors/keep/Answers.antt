use Rattle.std.proofs.Common.{◌≡◌, true, ◌&&◌, length, sym, ap, ◌∙◌, arith}
use Rattle.buffers.specs.View.{buffer_of}
use Rattle.kinds.specs.Kinds.{keeps_copies}
use Rattle.model.specs.declared.memory.StaleCopy.{StaleCopy}
use Rattle.port.specs.Holdings.{may_keep_in, keeping}
use Rattle.model.specs.Lists.{upd}
use Rattle.buffers.specs.declared.buffers.Buffers.{Buffers}
use Rattle.model.specs.declared.memory.WaitingStore.{WaitingStore}
use Rattle.machine.proofs.Keeping.{up_to, upto_same, upto_more, upto_all, may_not}
use Rattle.machine.proofs.processors.Processors.keep.Goals as goal

pub keep_one-requires : goal.keep_one-requires
keep_one-requires c =
    let x : StaleCopy = record { address = c.args.landing.address; cell = c.args.cell } in
    let keep = may_keep_in (buffer_of c.args.self.now.waiting) c.args.landing.processor x.address in
    let q = c.loop-processor.processor in
    let same : buffer_of c.loop-processor.self.copies q ≡ buffer_of c.args.self.now.copies q = ap (λ f. f q) c.loop-processor.invariant.copies ∙ upto_same keep x (buffer_of c.args.self.now.copies) q in
    omega (arith, ap length same, c.requires q)

pub loop-processor-preserved : goal.loop-processor-preserved
loop-processor-preserved c =
    let x : StaleCopy = record { address = c.args.landing.address; cell = c.args.cell } in
    let keep = may_keep_in (buffer_of c.args.self.now.waiting) c.args.landing.processor x.address in
    let f = buffer_of c.loop-processor.self.copies in
    let q = c.loop-processor.processor in
    let kept = c.keep_one.ensures.copies ∙ ap (λ (b : Buffers WaitingStore). upd f q (keeping (may_keep_in (buffer_of b) c.args.landing.processor x.address) x f q)) c.loop-processor.invariant.waiting in
    record {
      waiting = c.keep_one.ensures.waiting ∙ c.loop-processor.invariant.waiting;
      copies = upto_more keep x (buffer_of c.args.self.now.copies) q f (buffer_of c.keep_one.new.self.copies) c.loop-processor.invariant.copies kept;
    }

pub returns-clause-copies : goal.returns-clause-copies
returns-clause-copies c =
    let waits = buffer_of c.args.self.now.waiting in
    let f = buffer_of c.args.self.now.copies in
    let x : StaleCopy = record { address = c.args.landing.address; cell = c.args.cell } in
    let keep = may_keep_in waits c.args.landing.processor x.address in
    let end : c.loop-processor.processor ≡ 4 = omega arith in
    let kind : true ≡ keeps_copies c.args.kind = sym c.if-not-keeps_copies.false ∙ c.keeps_copies.ensures in
    c.loop-processor.invariant.copies ∙ ap (λ n. up_to n keep x f) end ∙ upto_all keep x f (may_not waits c.args.landing.processor x.address)
    ∙ ap (λ b. keeping (λ q. b && keep q) x f) kind
