-- One instruction more, and all instructions.
use Rattle.std.proofs.Common.{◌<◌, nat_eq, ap, ◌∙◌, subst}
use Rattle.std.specs.List.{list_any}
use Rattle.spec_uses.specs.Uses.{reads_tag}
use Rattle.lgx_xref.specs.Apart.{span_in}
use Rattle.lgx_xref.proofs.Noted.{gains_none, site_noted, sites_noted}
use Rattle.lgx_xref.proofs.note.note_readers.Goals as goal

pub loop-site-init : goal.loop-site-init
loop-site-init c = record { size = c.requires.lists; gains = λ program. gains_none c.args.readers.now.items }

pub loop-site-preserved : goal.loop-site-preserved
loop-site-preserved c = record {
  size = c.in_ok-note.ensures.size ∙ c.loop-site.invariant.size;
  gains = λ program.
      site_noted c.args.readers.now.items c.loop-site.readers.items c.note.new.lists.items (λ k. reads_tag (span_in c.args.spans.now k) program)
      c.args.placed.now c.loop-site.site-index c.site-item.result c.at.result c.as_slice.result.now
      c.loop-site-test.true c.site-item.is c.at.ensures
      (λ k within. ap (list_any (nat_eq k)) c.as_slice.ensures.value ∙ c.in_ok-tags.ensures k (subst (λ n. k < n) c.requires.lists within))
      c.in_ok-note.ensures (c.loop-site.invariant.gains program);
}

pub returns : goal.returns
returns c program =
    sites_noted c.args.readers.now.items c.loop-site.readers.items (λ k. reads_tag (span_in c.args.spans.now k) program)
    c.args.placed.now c.loop-site.site-index c.loop-site-test.false (c.loop-site.invariant.gains program)
