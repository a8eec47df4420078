pub mod Layers
mod Packets
mod Ports
mod Puts
mod Tagged
