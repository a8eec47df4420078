use Rattle.line_texts.proofs.Decimals.{decimal-clean}
use Rattle.line_texts.proofs.Handles.{handle-clean}
use Rattle.line_texts.proofs.EtherTypes.{ether_type-clean, all-clean}
use Rattle.line_texts.proofs.IpProtocols.{ip_protocol-clean}
use Rattle.line_texts.proofs.Classes.{class-clean}
use Rattle.line_texts.proofs.Masked.{masked_hex-clean, masked_octet-clean}
use Rattle.line_texts.proofs.MacTexts.{mac-clean}
use Rattle.line_texts.proofs.Ipv4Texts.{ipv4-clean}
use Rattle.line_texts.proofs.Ipv6Texts.{ipv6-clean}
use Rattle.line_texts.proofs.laws.texts_are_clean.Goals as goal

pub returns-clause-number : goal.returns-clause-number
returns-clause-number c = decimal-clean

pub returns-clause-handle : goal.returns-clause-handle
returns-clause-handle c = handle-clean

pub returns-clause-ether_type : goal.returns-clause-ether_type
returns-clause-ether_type c = ether_type-clean

pub returns-clause-all : goal.returns-clause-all
returns-clause-all c = all-clean

pub returns-clause-ip_protocol : goal.returns-clause-ip_protocol
returns-clause-ip_protocol c = ip_protocol-clean

pub returns-clause-class : goal.returns-clause-class
returns-clause-class c = class-clean

pub returns-clause-masked_hex : goal.returns-clause-masked_hex
returns-clause-masked_hex c = masked_hex-clean

pub returns-clause-masked_octet : goal.returns-clause-masked_octet
returns-clause-masked_octet c = masked_octet-clean

pub returns-clause-mac : goal.returns-clause-mac
returns-clause-mac c = mac-clean

pub returns-clause-ipv4 : goal.returns-clause-ipv4
returns-clause-ipv4 c = ipv4-clean

pub returns-clause-ipv6 : goal.returns-clause-ipv6
returns-clause-ipv6 c = ipv6-clean
