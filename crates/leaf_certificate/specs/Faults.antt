-- The definitions' words for the refusals of the code; want of memory has none.
use Rattle.std.specs.Prelude.{Option, Some, None}
use Rattle.pip_model.specs.Reading as reading
use Rattle.leaf_certificate.specs.declared.refusal.CertificateRefusal.{CertificateRefusal}
use Rattle.leaf_certificate.specs.declared.refusal.CertificateRefusal.TheVariants as refusal

abbrev pub certificate_fault : CertificateRefusal → Option reading.Fault
certificate_fault (refusal.Syntax place) = Some (reading.Syntax place)
certificate_fault (refusal.Wide place) = Some (reading.Wide place)
certificate_fault (refusal.Version z) = Some (reading.Version z)
certificate_fault refusal.WantOfMemory = None
